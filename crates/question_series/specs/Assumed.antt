-- Private: the literals that are assumed for kept pairs, and the pairs row by row. Only the contracts of private functions
-- cite it.
use Rattle.std.specs.Prelude.{ℕ, List, map, filter}
use Rattle.std.specs.List.{flat_map, Contains}
use Rattle.clause_store.specs.declared.Lit.{Lit}
use Rattle.fer_events.specs.Orders.{numbers}
use Rattle.fer_events.specs.Pairs.{has_pair}
use Rattle.order_coding.specs.Variables.{before_lit}

-- for each kept pair, that it stands in its order
abbrev pub kept_lits : ℕ → List (ℕ × ℕ) → List Lit
kept_lits n kept = map (λ p. before_lit n p.0 p.1) kept

-- the kept pairs of a with these numbers
abbrev pub row : List (ℕ × ℕ) → ℕ → List ℕ → List (ℕ × ℕ)
row kept a bs = filter (λ q. has_pair kept q.0 q.1) (map (λ b. (a, b)) bs)

-- the kept pairs of these numbers with all
abbrev pub rows : ℕ → List (ℕ × ℕ) → List ℕ → List (ℕ × ℕ)
rows n kept xs = filter (λ q. has_pair kept q.0 q.1) (flat_map (λ a. map (λ b. (a, b)) (numbers n)) xs)

-- each literal of the one list is in the other
abbrev pub AreAmong : List Lit → List Lit → Type 0
AreAmong part lits = (l : Lit) → Contains part l → Contains lits l
