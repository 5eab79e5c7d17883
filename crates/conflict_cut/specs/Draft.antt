-- Private: how the clause of a cut is drawn: variables are marked, and literals of lower levels are kept.
use Rattle.std.specs.Prelude.{◌≡◌, ℕ, ◌+◌, ◌-◌, ◌<◌, ◌≤◌, ◌⊎◌, ◌&&◌, Bool, true, false, List, length, nat_eq, count_by, slice_index_or, Some, slice_get}
use Rattle.std.specs.List.{All, Contains}
use Rattle.clause_store.specs.declared.Lit.{Lit}
use Rattle.clause_store.specs.Clauses.{negated, InVars}
use Rattle.clause_store.specs.Propagation.{IsImplied, Conflicts, Follows}
use Rattle.trail_core.specs.Course.{Entry, Course, IsCourse}
use Rattle.conflict_cut.specs.Cut.{FailsAt, NameOnce}
use Rattle.trail_core.specs.Standing.{AllFail}

-- which variables are marked, the variable v at place v - 1, and the literals that are kept
pub record Drafting : Type 0 where
  pub marks : List Bool
  pub lits : List Lit

-- how a draft is laid out
pub record IsLaidOut (marks : List Bool) (lits : List Lit) (len : ℕ) : Type 0 where
  pub lits_len : length lits ≡ length marks
  pub len_in : len ≤ length lits

abbrev pub IsMarkedAt : List Bool → ℕ → Type 0
IsMarkedAt marks place = slice_index_or marks place false ≡ true

abbrev pub IsMarked : List Bool → ℕ → Type 0
IsMarked marks v = IsMarkedAt marks (v - 1)

-- nothing is marked
abbrev pub IsClean : List Bool → Type 0
IsClean marks = (p : ℕ) → slice_index_or marks p false ≡ false

-- what is marked stays marked
abbrev pub StayMarked : List Bool → List Bool → Type 0
StayMarked old new = (p : ℕ) → IsMarkedAt old p → IsMarkedAt new p

-- whether the entry is of this level and marked
abbrev pub is_open : List Bool → ℕ → Entry → Bool
is_open marks level e = slice_index_or marks (e.lit.var - 1) false && nat_eq e.level level

-- the literal is false from a level on that is neither 0 nor the present one
abbrev pub IsLow : Course → Lit → Type 0
IsLow t l = (k : ℕ) × FailsAt t.entries l k × (1 ≤ k) × (k < t.level)

-- the marked variables are those of the literals that are kept, which are low, and of `count` entries of the present level
pub record IsUnderway (t : Course) (count : ℕ) (d : Drafting) : Type 0 where
  pub course : IsCourse t
  pub marks_len : length d.marks ≡ t.vars
  pub room : length d.lits + count ≤ count_by (λ b. b) d.marks
  pub kept : (l : Lit) → Contains d.lits l → IsMarked d.marks l.var × IsLow t l
  pub once : NameOnce d.lits
  pub marked :
      (p : ℕ) → IsMarkedAt d.marks p
      → (e : Entry) × Contains t.entries e × (e.lit.var ≡ p + 1) × ((e.level ≡ t.level) ⊎ Contains d.lits (negated e.lit))
  pub counted : count ≡ count_by (is_open d.marks t.level) t.entries

-- the literal's variable is marked, or it is false from level 0 on
abbrev pub IsTaken : List Entry → List Bool → Lit → Type 0
IsTaken entries marks l = IsMarked marks l.var ⊎ FailsAt entries l 0

-- wherever the marked entries are implied there is a conflict
abbrev pub Suffice : List (List Lit) → List Entry → List Bool → Type 0
Suffice clauses entries marks =
    (start : List Lit) → ((e : Entry) → Contains entries e → IsMarked marks e.lit.var → IsImplied clauses start e.lit)
    → Conflicts clauses start

-- the trail was gone through from its end down to this place
pub record IsWalking (clauses : List (List Lit)) (t : Course) (at count : ℕ) (d : Drafting) : Type 0 where
  pub underway : IsUnderway t count d
  pub some : 1 ≤ count
  pub passed : (k : ℕ) (e : Entry) → at ≤ k → slice_get t.entries k ≡ Some e → is_open d.marks t.level e ≡ false
  pub suffice : Suffice clauses t.entries d.marks

-- the literals that are kept are the clause of a cut, and the marked variables are theirs
pub record IsDrawn (clauses : List (List Lit)) (t : Course) (d : Drafting) : Type 0 where
  pub marks_len : length d.marks ≡ t.vars
  pub named : All (InVars t.vars) d.lits
  pub once : NameOnce d.lits
  pub all_fail : AllFail t.entries d.lits
  pub follows : Follows clauses d.lits
  pub marked : (p : ℕ) → IsMarkedAt d.marks p → (l : Lit) × Contains d.lits l × (l.var ≡ p + 1)
