-- Watches: which two literals of each attached clause are watched, and when they are in step with a trail.
use Rattle.std.specs.Prelude.{◌≡◌, ◌≢◌, ℕ, ◌≤◌, ◌⊎◌, List, map, take, drop, Some, slice_get}
use Rattle.std.specs.List.{Contains}
use Rattle.clause_store.specs.declared.Lit.{Lit}
use Rattle.clause_store.specs.Clauses.{negated}
use Rattle.trail_core.specs.Course.{Entry, Course, Fails}
use Rattle.trail_core.specs.Standing.{OthersFail}

-- an attached clause, by its number, and the two of its literals that are watched
pub record Watch : Type 0 where
  pub clause : ℕ
  pub first : Lit
  pub second : Lit

-- over how many variables, and the watches of the attached clauses
pub record Watching : Type 0 where
  pub vars : ℕ
  pub list : List Watch

-- the numbers of the attached clauses
abbrev pub numbers : List Watch → List ℕ
numbers list = map (λ w. w.clause) list

-- the watch is of two different literals of the clause that has its number
abbrev pub IsWatch : List (List Lit) → Watch → Type 0
IsWatch clauses w =
    (clause : List Lit) × (slice_get clauses w.clause ≡ Some clause) × Contains clause w.first × Contains clause w.second
    × (w.first ≢ w.second)

-- each watch is one
abbrev pub AreWatches : List (List Lit) → List Watch → Type 0
AreWatches clauses list = (w : Watch) → Contains list w → IsWatch clauses w

-- where a seen literal makes the first false, the second is true and of no higher level
abbrev pub IsGuarded : Course → Lit → Lit → Type 0
IsGuarded t a b =
    (e : Entry) → Contains (take t.seen t.entries) e → e.lit ≡ negated a
    → (f : Entry) × Contains t.entries f × (f.lit ≡ b) × (f.level ≤ e.level)

-- watches and trail are in step
abbrev pub AreInStep : List Watch → Course → Type 0
AreInStep list t = (w : Watch) → Contains list w → IsGuarded t w.first w.second × IsGuarded t w.second w.first

-- every literal that isn't seen has the present level
abbrev pub UnseenArePresent : Course → Type 0
UnseenArePresent t = (e : Entry) → Contains (drop t.seen t.entries) e → e.level ≡ t.level

-- the literal isn't false
abbrev pub IsNotFalse : List Entry → Lit → Type 0
IsNotFalse entries l = Fails entries l → ⊥

-- the clause of this number has two different literals, and one that isn't false
abbrev pub CanBeWatched : List (List Lit) → List Entry → ℕ → Type 0
CanBeWatched clauses entries id =
    (clause : List Lit) × (slice_get clauses id ≡ Some clause)
    × ((l : Lit) × Contains clause l × IsNotFalse entries l)
    × ((l : Lit) × (m : Lit) × Contains clause l × Contains clause m × (l ≢ m))

-- no false literal of the clause has a higher level than this false one
abbrev pub IsHighest : List Entry → List Lit → Lit → Type 0
IsHighest entries clause b =
    (m : Lit) → Contains clause m → (e f : Entry) → Contains entries e → e.lit ≡ negated m → Contains entries f
    → f.lit ≡ negated b → e.level ≤ f.level

-- the first literal of a new watch isn't false, and the second isn't either, or all others are false and it is of the
-- clause's highest false level
abbrev pub IsWellChosen : List (List Lit) → List Entry → Watch → Type 0
IsWellChosen clauses entries w =
    (clause : List Lit) × (slice_get clauses w.clause ≡ Some clause) × Contains clause w.first × Contains clause w.second
    × (w.first ≢ w.second) × IsNotFalse entries w.first
    × (IsNotFalse entries w.second ⊎ (IsHighest entries clause w.second × OthersFail entries clause w.first))
