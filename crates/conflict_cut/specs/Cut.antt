-- What a cut of a conflict leaves, and what it asks of the trail.
use Rattle.std.specs.Prelude.{◌≡◌, ◌≢◌, ℕ, ◌≤◌, ◌⊎◌, List, [], ◌∷◌, take, Some, slice_get}
use Rattle.std.specs.List.{Contains}
use Rattle.clause_store.specs.declared.Lit.{Lit}
use Rattle.clause_store.specs.Clauses.{negated}
use Rattle.trail_core.specs.Course.{Entry, Course}
use Rattle.trail_core.specs.Standing.{AllFail, OthersFail}

-- over how many variables, and the literals of the clause that was left
pub record Cutting : Type 0 where
  pub vars : ℕ
  pub lits : List Lit

-- the clause of this number is false
abbrev pub IsConflict : List (List Lit) → List Entry → ℕ → Type 0
IsConflict clauses entries id = (clause : List Lit) × (slice_get clauses id ≡ Some clause) × AllFail entries clause

-- the clause of this number has the literal, and its others were false before
abbrev pub IsReason : List (List Lit) → List Entry → Lit → ℕ → Type 0
IsReason clauses before l id =
    (clause : List Lit) × (slice_get clauses id ≡ Some clause) × Contains clause l × OthersFail before clause l

-- each reason is a clause that has the implied literal and whose others were false before it
abbrev pub AreReasons : List (List Lit) → List Entry → Type 0
AreReasons clauses entries =
    (k : ℕ) (e : Entry) (id : ℕ) → slice_get entries k ≡ Some e → e.reason ≡ Some id
    → IsReason clauses (take k entries) e.lit id

-- the literal is false, from this level on
abbrev pub FailsAt : List Entry → Lit → ℕ → Type 0
FailsAt entries l level = (e : Entry) × Contains entries e × (e.lit ≡ negated l) × (e.level ≡ level)

-- no two literals are of one variable
abbrev pub NameOnce : List Lit → Type 0
NameOnce [] = Unit {0}
NameOnce (l ∷ ls) = ((m : Lit) → Contains ls m → m.var ≢ l.var) × NameOnce ls

-- the literals are false from levels on of which none is 0, and this one is the greatest of them, or 0 where there are
-- no literals
pub record IsGreatest (entries : List Entry) (P : Lit → Type 0) (level : ℕ) : Type 0 where
  pub each : (m : Lit) → P m → (k : ℕ) × FailsAt entries m k × (1 ≤ k) × (k ≤ level)
  pub one : (level ≡ 0) ⊎ ((m : Lit) × P m × FailsAt entries m level)

-- one literal is false from the present level on, and this level is the greatest of the others, or 0
pub record IsAsserting (t : Course) (clause : List Lit) (level : ℕ) : Type 0 where
  pub lit : Lit
  pub has : Contains clause lit
  pub present : FailsAt t.entries lit t.level
  pub others : IsGreatest t.entries (λ m. Contains clause m × (m ≢ lit)) level

-- some literal of the clause of this number is false from the present level on
abbrev pub HasPresent : List (List Lit) → Course → ℕ → Type 0
HasPresent clauses t id =
    (clause : List Lit) × (slice_get clauses id ≡ Some clause) × ((l : Lit) × Contains clause l × FailsAt t.entries l t.level)
