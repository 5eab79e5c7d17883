-- Private: a matrix of bits, a row for each first number and a bit for each second, both counted from 1.
use Rattle.std.specs.Prelude.{ℕ, ◌-◌, Bool, ◌==◌, List, filter, slice_index}
use Rattle.std.specs.Int.{bit_at}
use Rattle.fer_events.specs.Pairs.{square}

-- the bit of a pair
abbrev pub bit_of : List ℕ → ℕ → ℕ → Bool
bit_of rows a b = bit_at (slice_index rows (a - 1)) (b - 1) == 1

-- the pairs whose bit is set
abbrev pub pairs_of : ℕ → List ℕ → List (ℕ × ℕ)
pairs_of n rows = filter (λ p. bit_of rows p.0 p.1) (square n)
