-- Private: the heap of the variables that were noted, highest first.
use Rattle.std.specs.Prelude.{◌≡◌, ◌≢◌, ℕ, ◌+◌, ◌-◌, ◌*◌, ◌/◌, ◌<◌, ◌≤◌, List, Option, Some, None, length, slice_index, slice_set, count_by, nat_le}
use Rattle.branch_rules.specs.Choosing.{score_of}

-- by their ranks variables stand in order: by score, and of one score the least is the highest
abbrev pub rank : List ℕ → ℕ → ℕ
rank scores v = score_of scores v * 4294967296 + (4294967296 - v)

-- that of a variable that was found, and 0 where none was
abbrev pub rank_of : List ℕ → Option ℕ → ℕ
rank_of scores None = 0
rank_of scores (Some v) = rank scores v

-- two variables in each other's place
abbrev pub exchanged : List ℕ → ℕ → ℕ → List ℕ
exchanged heap a b = slice_set (slice_set heap a (slice_index heap b)) b (slice_index heap a)

-- the same variables are without a place
abbrev pub HaveSame : List ℕ → List ℕ → Type 0
HaveSame old new = (p : ℕ) → (slice_index old p ≡ 0 → slice_index new p ≡ 0) × (slice_index new p ≡ 0 → slice_index old p ≡ 0)

-- the place above this one
abbrev pub parent : ℕ → ℕ
parent i = (i - 1) / 2

-- the first `size` places hold a heap: no variable is above that of the place above
abbrev pub IsRanked : List ℕ → List ℕ → ℕ → Type 0
IsRanked scores heap size =
    (i : ℕ) → 0 < i → i < size → rank scores (slice_index heap i) ≤ rank scores (slice_index heap (parent i))

-- but for this place, whose variable may be too low
pub record IsAlmost (scores heap : List ℕ) (size at : ℕ) : Type 0 where
  pub others : (i : ℕ) → 0 < i → i < size → i ≢ at → rank scores (slice_index heap i) ≤ rank scores (slice_index heap (parent i))
  pub below : (i : ℕ) → 0 < i → i < size → parent i ≡ at → 0 < at → rank scores (slice_index heap i) ≤ rank scores (slice_index heap (parent at))

-- each of the first `count` places holds a variable that is there, and each variable knows its place, counted from 1, or 0 where
-- it has none
pub record IsIndexed (heap places : List ℕ) (count vars : ℕ) : Type 0 where
  pub room : length heap ≡ vars
  pub len : length places ≡ vars
  pub within : count ≤ vars
  pub short : vars < 4294967296
  pub held : (i : ℕ) → i < count → (1 ≤ slice_index heap i) × (slice_index heap i ≤ vars) × (slice_index places (slice_index heap i - 1) ≡ i + 1)
  pub placed : (v : ℕ) → 1 ≤ v → v ≤ vars → slice_index places (v - 1) ≢ 0
      → (slice_index places (v - 1) ≤ count) × (slice_index heap (slice_index places (v - 1) - 1) ≡ v)
  pub counted : count_by (λ p. nat_le 1 p) places ≡ count

-- what is true of the scores as they are kept
pub record IsKept (scores heap places : List ℕ) (count step : ℕ) : Type 0 where
  pub ranked : IsRanked scores heap count
  pub indexed : IsIndexed heap places count (length scores)
  pub unnoted : (v : ℕ) → 1 ≤ v → v ≤ length scores → slice_index places (v - 1) ≡ 0 → score_of scores v ≡ 0
  pub small : (i : ℕ) → slice_index scores i ≤ 1152921504606846976
  pub short_step : step ≤ 1073741824

-- the second place is the first one or below it
pub data Under : ℕ → ℕ → Type 0 where
  here : (at : ℕ) → Under at at
  left : (at i : ℕ) → Under (2 * at + 1) i → Under at i
  right : (at i : ℕ) → Under (2 * at + 2) i → Under at i
