-- Private: what holds of a checker between its calls, and while the literals of a clause are made false. Only the contracts of
-- private functions cite it.
use Rattle.std.specs.Prelude.{◌≡◌, ℕ, Bool, true, false, List, [], length, None, Some, slice_get}
use Rattle.std.specs.List.{Contains}
use Rattle.clause_store.specs.declared.Lit.{Lit}
use Rattle.clause_store.specs.Clauses.{Formula, negated}
use Rattle.clause_store.specs.Propagation.{Follows, negations}
use Rattle.trail_core.specs.Course.{Entry, Course}
use Rattle.watch_lists.specs.Watching.{Watching}
use Rattle.unit_closure.specs.Search.{IsSound}
use Rattle.rup_checker.specs.declared.trials.Trial.{Trial}
use Rattle.rup_checker.specs.declared.trials.Trial.TheVariants as trial

-- at level 0, and all is gone through
pub record IsReady (f : Formula) (w : Watching) (t : Course) : Type 0 where
  pub sound : IsSound f w t
  pub level : t.level ≡ 0
  pub seen : t.seen ≡ length t.entries

-- what holds of each checker: it is ready, or the empty clause follows
pub record IsChecker (dead : Bool) (f : Formula) (w : Watching) (t : Course) : Type 0 where
  pub alive : dead ≡ false → IsReady f w t
  pub refuted : dead ≡ true → Follows f.clauses []

-- each decided literal is the negation of one of the clause
abbrev pub AreDenials : List Entry → List Lit → Type 0
AreDenials entries clause = (e : Entry) → Contains entries e → e.reason ≡ None → Contains (negations clause) e.lit

-- what holds while the literals of the clause are made false: all is gone through, and nothing else is decided
pub record IsTrying (f : Formula) (w : Watching) (t : Course) (clause : List Lit) : Type 0 where
  pub sound : IsSound f w t
  pub seen : t.seen ≡ length t.entries
  pub denials : AreDenials t.entries clause

-- what a trial showed of the clause: it follows, it doesn't, or it has a literal beside its negation
abbrev pub IsTrial : List (List Lit) → List Lit → Trial → Type 0
IsTrial clauses clause (trial.Follows id) = Follows clauses clause
IsTrial clauses clause trial.Open = Follows clauses clause → ⊥
IsTrial clauses clause trial.Doubtful = (l : Lit) × Contains clause l × Contains clause (negated l)

-- each literal of the one clause is in the other
abbrev pub IsPart : List Lit → List Lit → Type 0
IsPart part whole = (l : Lit) → Contains part l → Contains whole l

-- one of the clauses is part of this one
abbrev pub HasPart : List (List Lit) → List Lit → Type 0
HasPart clauses whole = (id : ℕ) × (part : List Lit) × (slice_get clauses id ≡ Some part) × IsPart part whole
