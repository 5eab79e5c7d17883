-- What values of the variables say of a crash.
use Rattle.std.specs.Prelude.{◌≡◌, ◌↔◌, ℕ, Bool, true, false, not, ◌==◌, List, ◌++◌, length, filter, count_by, if◌then◌else◌, Contains, IsPermutation}
use Rattle.std.specs.List.Sorted.{IsNonDecreasingBy}
use Rattle.clause_store.specs.Clauses.{Formula}
use Rattle.clause_store.specs.Truth.{is_true, MakesAllTrue}
use Rattle.fer_events.specs.declared.event.Crash.{Crash}
use Rattle.fer_events.specs.Orders.{numbers, before_cut, StandsBefore}
use Rattle.order_coding.specs.Variables.{IsNumber, in_lit, before_lit}
use Rattle.order_coding.specs.Tournament.{rank}

-- event e is in
abbrev pub is_in : List Bool → ℕ → Bool
is_in values e = is_true values (in_lit e)

-- event a stands before event b
abbrev pub is_before : ℕ → List Bool → ℕ → ℕ → Bool
is_before n values a b = if a == b then false else is_true values (before_lit n a b)

-- how many events stand before event e
abbrev pub predecessors : ℕ → List Bool → ℕ → ℕ
predecessors n values e = rank (numbers n) (is_before n values) e

-- the crash that the values say: first the events that are in, by how many events stand before each, then the others
-- ascending, with the cut between them
pub record IsDecoded (n : ℕ) (values : List Bool) (crash : Crash) : Type 0 where
  pub cut : crash.cut ≡ count_by (is_in values) (numbers n)
  pub inside : IsPermutation (filter (is_in values) (numbers n)) (before_cut crash)
  pub by_place : IsNonDecreasingBy (predecessors n values) (before_cut crash)
  pub order : crash.order ≡ before_cut crash ++ filter (λ e. not (is_in values e)) (numbers n)

-- the values say of each event whether it is in, and of each two which of them stands before the other in this crash
pub record Describes (n : ℕ) (values : List Bool) (crash : Crash) : Type 0 where
  pub inside : (e : ℕ) → IsNumber n e → (is_in values e ≡ true) ↔ Contains (before_cut crash) e
  pub before : (a b : ℕ) → IsNumber n a → IsNumber n b → (is_before n values a b ≡ true) ↔ StandsBefore crash.order a b

-- some values, one for each variable of the formula, describe the crash and make all clauses of the formula true
abbrev pub HasValues : ℕ → Crash → Formula → Type 0
HasValues n crash formula =
    (values : List Bool) × (length values ≡ formula.vars) × Describes n values crash × MakesAllTrue values formula.clauses
