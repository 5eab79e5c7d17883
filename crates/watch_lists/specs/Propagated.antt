-- What propagation adds to a trail, and when it has ended.
use Rattle.std.specs.Prelude.{◌≡◌, ◌≢◌, ℕ, ◌++◌, ◌⊎◌, Bool, List, [], ◌∷◌, Some, slice_get}
use Rattle.std.specs.List.{Contains, list_any}
use Rattle.clause_store.specs.declared.Lit.{Lit}
use Rattle.clause_store.specs.Clauses.{lit_eq}
use Rattle.trail_core.specs.Course.{Entry, Course, Holds, HasNoValue}
use Rattle.trail_core.specs.Standing.{AllFail, OthersFail, IsUnit}

-- an attached clause, with its number
abbrev pub IsAttached : List (List Lit) → List ℕ → ℕ → List Lit → Type 0
IsAttached clauses numbers id clause = Contains numbers id × (slice_get clauses id ≡ Some clause)

-- the number of an attached clause whose literals are all false
abbrev pub IsConflict : List (List Lit) → List ℕ → List Entry → ℕ → Type 0
IsConflict clauses numbers entries id = (clause : List Lit) × IsAttached clauses numbers id clause × AllFail entries clause

-- no attached clause is false, and none is unit
abbrev pub IsSettled : List (List Lit) → List ℕ → List Entry → Type 0
IsSettled clauses numbers entries =
    (id : ℕ) (clause : List Lit) → IsAttached clauses numbers id clause
    → (AllFail entries clause → ⊥) × (IsUnit entries clause → ⊥)

-- the clause has a true literal, or two different literals without a value
abbrev pub IsSafe : List Entry → List Lit → Type 0
IsSafe entries clause =
    ((l : Lit) × Contains clause l × Holds entries l)
    ⊎ ((l : Lit) × (m : Lit) × Contains clause l × Contains clause m × (l ≢ m) × HasNoValue entries l.var × HasNoValue entries m.var)

-- each attached clause is safe
abbrev pub AreSafe : List (List Lit) → List ℕ → List Entry → Type 0
AreSafe clauses numbers entries = (id : ℕ) (clause : List Lit) → IsAttached clauses numbers id clause → IsSafe entries clause

-- the literal is implied at this level by an attached clause that has it and whose others were false before
abbrev pub IsForced : List (List Lit) → List ℕ → ℕ → List Entry → Entry → Type 0
IsForced clauses numbers level before e =
    (id : ℕ) × (clause : List Lit) × IsAttached clauses numbers id clause × (e.reason ≡ Some id) × (e.level ≡ level)
    × Contains clause e.lit × OthersFail before clause e.lit

-- implied literals are added one after another
pub data Grows (clauses : List (List Lit)) (numbers : List ℕ) (level : ℕ) (from : List Entry) : List Entry → Type 0 where
  none : Grows clauses numbers level from from
  more :
      (to : List Entry) (e : Entry) → Grows clauses numbers level from to → IsForced clauses numbers level to e
      → Grows clauses numbers level from (to ++ e ∷ [])

-- the trail has grown by implied literals of its present level
pub record Advances (clauses : List (List Lit)) (numbers : List ℕ) (old new : Course) : Type 0 where
  pub vars : new.vars ≡ old.vars
  pub level : new.level ≡ old.level
  pub grows : Grows clauses numbers old.level old.entries new.entries

-- the set of the literals that are true
abbrev pub truths : List Entry → Lit → Bool
truths entries l = list_any (λ e. lit_eq e.lit l) entries
