-- Private: what the clauses of last writers need of the writers. Only the contracts of private functions cite it.
use Rattle.std.specs.Prelude.{◌≢◌, ℕ, ◌≤◌, List, length, map, All, AllPairs}
use Rattle.std.specs.List.{flat_map}
use Rattle.clause_store.specs.declared.Lit.{Lit}
use Rattle.fer_events.specs.Orders.{numbers}
use Rattle.order_coding.specs.Variables.{IsNumber}
use Rattle.value_coding.specs.declared.cell.CodedCell.{CodedCell}
use Rattle.value_coding.specs.LastClauses.{last_is, none_is, last_clauses, other_before}

-- the numbers are of n events, each once
pub record AreWriters (n : ℕ) (writers : List ℕ) : Type 0 where
  pub few : length writers ≤ 128
  pub numbers : All (IsNumber n) writers
  pub apart : AllPairs (λ a b. a ≢ b) writers

-- what the clauses of a cell say of the j-th writer beside the others, of all writers, and of none
abbrev pub others : ℕ → ℕ → List ℕ → ℕ → List (List Lit)
others n first writers j = flat_map (other_before n first writers j) (numbers (length writers))

abbrev pub lasts : ℕ → ℕ → List ℕ → List (List Lit)
lasts n first writers = flat_map (last_is n first writers) (numbers (length writers))

abbrev pub nones : ℕ → List ℕ → List (List Lit)
nones first writers = map (none_is first writers) (numbers (length writers))

-- the clauses of cells that have their variables
abbrev pub each_coded : ℕ → List CodedCell → List (List Lit)
each_coded n cells = flat_map (λ c. last_clauses n c.first c.writers) cells
