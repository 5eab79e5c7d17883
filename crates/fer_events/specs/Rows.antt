-- Private: the pairs of a list that begin with one number, and those that begin with a number up to one.
use Rattle.std.specs.Prelude.{ℕ, Bool, List, map, filter}
use Rattle.std.specs.List.{flat_map}
use Rattle.fer_events.specs.Orders.{numbers}
use Rattle.fer_events.specs.Pairs.{PairList, has_pair}

-- the pair is one of the list
abbrev pub is_listed : PairList → ℕ × ℕ → Bool
is_listed p q = has_pair p.pairs q.0 q.1

-- the pairs of the list that begin with this number and end with one up to `last`, by the second
abbrev pub row_upto : PairList → ℕ → ℕ → List (ℕ × ℕ)
row_upto p a last = filter (is_listed p) (map (λ b. (a, b)) (numbers last))

-- the pairs of the list that begin with a number up to `last`, by the first, then the second
abbrev pub rows_upto : PairList → ℕ → List (ℕ × ℕ)
rows_upto p last = filter (is_listed p) (flat_map (λ a. map (λ b. (a, b)) (numbers p.n)) (numbers last))
