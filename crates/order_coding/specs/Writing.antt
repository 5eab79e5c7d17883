-- Private: the clauses of kept pairs, row by row. Only the contracts of private functions cite it.
use Rattle.std.specs.Prelude.{ℕ, List, [], ◌∷◌, ◌++◌, if◌then◌else◌}
use Rattle.std.specs.List.{flat_map}
use Rattle.clause_store.specs.declared.Lit.{Lit}
use Rattle.clause_store.specs.Clauses.{Formula}
use Rattle.fer_events.specs.Orders.{numbers}
use Rattle.fer_events.specs.Pairs.{has_pair}
use Rattle.order_coding.specs.Variables.{before_lit}

-- the clause of the pair (a, b), if it is kept
abbrev pub if_kept : ℕ → List (ℕ × ℕ) → ℕ → ℕ → List (List Lit)
if_kept n kept a b = if has_pair kept a b then (before_lit n a b ∷ []) ∷ [] else []

abbrev pub if_kept_each : ℕ → List (ℕ × ℕ) → ℕ → List (List Lit)
if_kept_each n kept a = flat_map (if_kept n kept a) (numbers n)
