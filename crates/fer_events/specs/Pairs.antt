-- Which events have to reach the disk in order: pairs (a, b) of the numbers from 1 to n, listed by a, then b.
use Rattle.std.specs.Prelude.{◌≡◌, ℕ, Bool, ◌&&◌, ◌==◌, List, map, filter}
use Rattle.std.specs.List.{flat_map, list_any}
use Rattle.fer_events.specs.Orders.{numbers}

-- pairs of the numbers from 1 to n
pub record PairList : Type 0 where
  pub n : ℕ
  pub pairs : List (ℕ × ℕ)

-- every pair of the numbers from 1 to n, by the first, then the second
abbrev pub square : ℕ → List (ℕ × ℕ)
square n = flat_map (λ a. map (λ b. (a, b)) (numbers n)) (numbers n)

-- the pair is in the list
abbrev pub has_pair : List (ℕ × ℕ) → ℕ → ℕ → Bool
has_pair pairs a b = list_any (λ p. (p.0 == a) && (p.1 == b)) pairs

-- the pairs stand in the square's order, each once: they are those of the square that are in the list
abbrev pub IsListed : PairList → Type 0
IsListed p = p.pairs ≡ filter (λ q. has_pair p.pairs q.0 q.1) (square p.n)
