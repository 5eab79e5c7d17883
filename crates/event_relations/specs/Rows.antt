-- Private: relations as rows of bits: bit b of row a stands for the pair (a, b), both counted from 0.
use Rattle.std.specs.Prelude.{◌≡◌, ℕ, ◌+◌, ◌<◌, ◌^◌, Bool, true, ◌==◌, List, length, slice_index, bit_or}
use Rattle.std.specs.Int.{bit_at}

-- the bit of a pair
abbrev pub has : List ℕ → ℕ → ℕ → Bool
has rows a b = bit_at (slice_index rows a) b == 1

-- some row has b whose bit is set in the word, the lowest bit standing for the row at `first`
abbrev pub ReachesFrom : List ℕ → ℕ → ℕ → ℕ → Type 0
ReachesFrom rows first word b = (c : ℕ) × (bit_at word c ≡ 1) × (has rows (first + c) b ≡ true)

-- a path of one or more pairs leads from a to b
pub data Joins (rows : List ℕ) : ℕ → ℕ → Type 0 where
  one : (a b : ℕ) → has rows a b ≡ true → Joins rows a b
  more : (a b c : ℕ) → has rows a b ≡ true → Joins rows b c → Joins rows a c

-- each pair of the left rows is one of the right ones
abbrev pub AreAmong : List ℕ → List ℕ → Type 0
AreAmong left right = (a b : ℕ) → has left a b ≡ true → has right a b ≡ true

-- the left rows have more than the right ones: at some place a word rises when they are united
pub record HasNew (left right : List ℕ) : Type 0 where
  pub place : ℕ
  pub there : place < length right
  pub fits : slice_index right place < 2 ^ 128
  pub rises : slice_index right place < bit_or (slice_index left place) (slice_index right place)
