-- Which variable a branching rule picks: the least, the greatest, or the least of those with the highest score.
use Rattle.std.specs.Prelude.{◌≡◌, ℕ, ◌+◌, ◌-◌, ◌/◌, ◌<◌, ◌≤◌, ◌⊎◌, ◌&&◌, min, nat_le, Bool, List, [], Option, Some, None, map, length, slice_get, slice_index, slice_set, if◌then◌else◌}

-- the variable is there and has no value: variable v has its value at place v - 1
abbrev pub IsOpen : List (Option Bool) → ℕ → Type 0
IsOpen values v = (1 ≤ v) × (slice_get values (v - 1) ≡ Some None)

-- no variable is without a value
abbrev pub AreSet : List (Option Bool) → Type 0
AreSet values = (v : ℕ) → IsOpen values v → ⊥

-- the least variable without a value
abbrev pub IsLeast : List (Option Bool) → ℕ → Type 0
IsLeast values v = IsOpen values v × ((w : ℕ) → IsOpen values w → v ≤ w)

-- the greatest one
abbrev pub IsGreatest : List (Option Bool) → ℕ → Type 0
IsGreatest values v = IsOpen values v × ((w : ℕ) → IsOpen values w → w ≤ v)

-- the score of variable v at place v - 1, and the step that is added to a score
pub record Scoring : Type 0 where
  pub scores : List ℕ
  pub step : ℕ

-- a variable's score; one past the end has the score 0
abbrev pub score_of : List ℕ → ℕ → ℕ
score_of scores v = slice_index scores (v - 1)

-- the least of those variables without a value that have the highest score
abbrev pub IsHighest : List ℕ → List (Option Bool) → ℕ → Type 0
IsHighest scores values v =
    IsOpen values v
    × ((w : ℕ) → IsOpen values w
    → (score_of scores w < score_of scores v) ⊎ ((score_of scores w ≡ score_of scores v) × (v ≤ w)))

-- no variable has a score yet
abbrev pub fresh : List ℕ → Scoring
fresh scores = record { scores = scores; step = 1 }

-- all scores and the step are halved
abbrev pub halved : Scoring → Scoring
halved s = record { scores = map (λ n. n / 2) s.scores; step = s.step / 2 }

-- the step is added to the score of a variable that is there
abbrev pub added : Scoring → ℕ → Scoring
added s v = record s { scores = slice_set s.scores (v - 1) (score_of s.scores v + s.step) }

-- a variable that is there was noted: where its score would pass 2^60, all are halved before
abbrev pub raised : Scoring → ℕ → Scoring
raised s v = if nat_le (score_of s.scores v + s.step) 1152921504606846976 then added s v else added (halved s) v

-- a variable was noted: one that isn't there changes nothing
abbrev pub noted : ℕ → Scoring → Scoring
noted v s = if nat_le 1 v && nat_le v (length s.scores) then raised s v else s

-- the end of a conflict was told
abbrev pub settled : Scoring → Scoring
settled s = record s { step = min (s.step + 1) 1073741824 }

-- what becomes of the scores, where a search has begun
abbrev pub once_begun : (Scoring → Scoring) → Option Scoring → Option Scoring
once_begun f None = None
once_begun f (Some s) = Some (f s)

-- the scores, and none where no search has begun
abbrev pub scores_of : Option Scoring → List ℕ
scores_of None = []
scores_of (Some s) = s.scores
