-- Private: what holds of a search between its steps. Only the contracts of private functions cite it.
use Rattle.std.specs.Prelude.{Bool, true, false, ◌≡◌, ◌≢◌, ℕ, ◌⊎◌, ◌++◌, List, [], ◌∷◌, take, Some, slice_get}
use Rattle.std.specs.List.{Contains}
use Rattle.clause_store.specs.declared.Lit.{Lit}
use Rattle.clause_store.specs.Clauses.{Formula}
use Rattle.clause_store.specs.Propagation.{Follows, IsNew}
use Rattle.trail_core.specs.Course.{Entry, Course, IsCourse}
use Rattle.watch_lists.specs.Watching.{Watch, Watching, numbers, AreWatches, AreInStep, UnseenArePresent, IsWellChosen}
use Rattle.conflict_cut.specs.Cut.{AreReasons}
use Rattle.cdcl_core.specs.declared.parts.Engine.{Engine}
use Rattle.cdcl_core.specs.Answering.{Solving}
use Rattle.cdcl_core.specs.Numbers.{AreNumbers, at_numbers, at_others}

-- the clauses that were given, those that were learned, and the solver as it is seen
abbrev pub given_in : Engine → List (List Lit)
given_in e = at_others 0 e.learned e.store.clauses

abbrev pub learned_in : Engine → List (List Lit)
learned_in e = at_numbers e.learned e.store.clauses

abbrev pub solving_of : Engine → Solving
solving_of e = record { vars = e.store.vars; clauses = given_in e; learned = learned_in e }

-- some literal of the clause is true from level 0 on
abbrev pub IsTrueAtZero : List Entry → List Lit → Type 0
IsTrueAtZero entries clause =
    (l : Lit) × (e : Entry) × Contains clause l × Contains entries e × (e.lit ≡ l) × (e.level ≡ 0)

-- what holds between the calls of propagation: the trail is one, its reasons are clauses of the store, the watches are of
-- clauses of the store and in step with the trail, what isn't seen has the present level, and each clause of the store is
-- attached or true from level 0 on
pub record IsSearch (clauses : List (List Lit)) (list : List Watch) (t : Course) : Type 0 where
  pub course : IsCourse t
  pub reasons : AreReasons clauses t.entries
  pub watches : AreWatches clauses list
  pub in_step : AreInStep list t
  pub unseen : UnseenArePresent t
  pub known :
      (id : ℕ) (clause : List Lit) → slice_get clauses id ≡ Some clause
      → Contains (numbers list) id ⊎ IsTrueAtZero t.entries clause

-- all parts are over the variables of the store
pub record AreOver (vars watches trail scratch : ℕ) : Type 0 where
  pub watches_vars : watches ≡ vars
  pub trail_vars : trail ≡ vars
  pub scratch_vars : scratch ≡ vars

-- what holds of a search between its steps
pub record IsSound (e : Engine) : Type 0 where
  pub over : AreOver e.store.vars e.watches.vars e.trail.vars e.scratch.vars
  pub search : IsSearch e.store.clauses e.watches.list e.trail
  pub learned : AreNumbers e.store.clauses e.learned

-- what holds at level 0 while clauses are taken in: it is a search among those before this number
pub record IsReadyAt (e : Engine) (id : ℕ) : Type 0 where
  pub over : AreOver e.store.vars e.watches.vars e.trail.vars e.scratch.vars
  pub search : IsSearch (take id e.store.clauses) e.watches.list e.trail
  pub level : e.trail.level ≡ 0

-- what holds of each solver: it is sound, or the empty clause follows
pub record IsSolver (dead : Bool) (e : Engine) : Type 0 where
  pub learned : AreNumbers e.store.clauses e.learned
  pub alive : dead ≡ false → IsSound e
  pub refuted : dead ≡ true → Follows e.store.clauses []

-- the formula with one clause more
abbrev pub with_clause : Formula → List Lit → Formula
with_clause f clause = record f { clauses = f.clauses ++ clause ∷ [] }

-- the clause is attached by a well chosen watch, or it has but one literal and no watch is added
abbrev pub IsHooked : List (List Lit) → List Entry → Watching → Watching → ℕ → List Lit → Type 0
IsHooked clauses entries old new id clause =
    ((w : Watch) × (new ≡ record old { list = old.list ++ w ∷ [] }) × (w.clause ≡ id) × IsWellChosen clauses entries w)
    ⊎ ((new ≡ old) × ((l m : Lit) → Contains clause l → Contains clause m → l ≡ m))

-- a clause that isn't empty, follows and is new
abbrev pub IsLesson : List (List Lit) → List Lit → Type 0
IsLesson clauses clause = (clause ≢ []) × Follows clauses clause × IsNew clauses clause
