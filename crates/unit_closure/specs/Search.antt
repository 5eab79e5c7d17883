-- What holds of clauses, watches and a trail between the calls of propagation, and what changes on the way.
use Rattle.std.specs.Prelude.{◌≡◌, ℕ, ◌⊎◌, ◌≤◌, ◌++◌, List, [], ◌∷◌, length, take, Some, None, slice_get}
use Rattle.std.specs.List.{Contains}
use Rattle.clause_store.specs.declared.Lit.{Lit}
use Rattle.clause_store.specs.Clauses.{Formula}
use Rattle.trail_core.specs.Course.{Entry, Course, IsCourse}
use Rattle.watch_lists.specs.Watching.{Watch, Watching, numbers, AreWatches, AreInStep, UnseenArePresent}
use Rattle.conflict_cut.specs.Cut.{AreReasons}

-- some literal of the clause is true from level 0 on
abbrev pub IsTrueAtZero : List Entry → List Lit → Type 0
IsTrueAtZero entries clause =
    (l : Lit) × (e : Entry) × Contains clause l × Contains entries e × (e.lit ≡ l) × (e.level ≡ 0)

-- the clause has all literals of an attached one
abbrev pub IsCovered : List (List Lit) → List ℕ → List Lit → Type 0
IsCovered clauses numbers clause =
    (id : ℕ) × (smaller : List Lit) × Contains numbers id × (slice_get clauses id ≡ Some smaller)
    × ((l : Lit) → Contains smaller l → Contains clause l)

-- the clause of this number is attached, true from level 0 on, or covered
abbrev pub IsKnown : List (List Lit) → List ℕ → List Entry → ℕ → List Lit → Type 0
IsKnown clauses numbers entries id clause =
    Contains numbers id ⊎ (IsTrueAtZero entries clause ⊎ IsCovered clauses numbers clause)

-- what holds between the calls of propagation: the trail is one, its reasons are among the clauses, the watches are of
-- the clauses and in step with the trail, what isn't seen has the present level, and each clause is known
pub record IsSearch (clauses : List (List Lit)) (list : List Watch) (t : Course) : Type 0 where
  pub course : IsCourse t
  pub reasons : AreReasons clauses t.entries
  pub watches : AreWatches clauses list
  pub in_step : AreInStep list t
  pub unseen : UnseenArePresent t
  pub known :
      (id : ℕ) (clause : List Lit) → slice_get clauses id ≡ Some clause
      → IsKnown clauses (numbers list) t.entries id clause

-- watches and trail are over the variables of the clauses, and what holds between the calls of propagation does
pub record IsSound (f : Formula) (w : Watching) (t : Course) : Type 0 where
  pub watches_vars : w.vars ≡ f.vars
  pub trail_vars : t.vars ≡ f.vars
  pub search : IsSearch f.clauses w.list t

-- what holds at level 0 while clauses are taken in: those before this number are
pub record IsReadyAt (f : Formula) (w : Watching) (t : Course) (id : ℕ) : Type 0 where
  pub watches_vars : w.vars ≡ f.vars
  pub trail_vars : t.vars ≡ f.vars
  pub search : IsSearch (take id f.clauses) w.list t
  pub level : t.level ≡ 0

-- the formula with one clause more
abbrev pub with_clause : Formula → List Lit → Formula
with_clause f clause = record f { clauses = f.clauses ++ clause ∷ [] }

-- implied literals were added to the trail
pub record Spreads (old new : Course) : Type 0 where
  pub vars : new.vars ≡ old.vars
  pub level : new.level ≡ old.level
  pub decided : (e : Entry) → Contains new.entries e → e.reason ≡ None → Contains old.entries e
  pub kept : (e : Entry) → Contains old.entries e → Contains new.entries e
  pub longer : length old.entries ≤ length new.entries
