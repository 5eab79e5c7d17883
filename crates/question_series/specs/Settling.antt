-- Private: what is true of each series, and what a question to its solver ends with. Only the contracts of private functions
-- cite it.
use Rattle.std.specs.Prelude.{◌≡◌, ℕ, ◌+◌, ◌≤◌, List, ◌++◌, length, drop, Option, IfSome, IsSomeAnd, ⊤}
use Rattle.std.specs.List.Sorted.{IsStrictlyIncreasing}
use Rattle.clause_store.specs.declared.Lit.{Lit}
use Rattle.clause_store.specs.Propagation.{Follows, Conflicts, HasAll, negations}
use Rattle.clause_store.specs.Truth.{is_true, MakesAllTrue}
use Rattle.cdcl_core.specs.Answering.{Solving, AreLessons}
use Rattle.order_coding.specs.Variables.{order_vars}
use Rattle.order_coding.specs.Decoded.{IsDecoded}
use Rattle.question_series.specs.Assumed.{AreAmong}
use Rattle.question_series.specs.declared.settling.Found.{Found}
use Rattle.question_series.specs.declared.settling.Found.TheVariants.{Values, Refuted, Spent}
use Rattle.question_series.specs.declared.series.SeriesAnswer.{SeriesAnswer}
use Rattle.question_series.specs.declared.series.SeriesAnswer.TheVariants.{Allowed, Forbidden}
use Rattle.question_series.specs.declared.series.SeriesAnswer.TheVariants as answer

-- the clause of these literals' negations follows by unit propagation from the clauses and what was learned
abbrev pub IsRefuting : Solving → Option (List Lit) → Type 0
IsRefuting s part = IfSome part (λ lits. Follows (s.clauses ++ s.learned) (negations lits))

-- the literals that were refuted last are among these
abbrev pub IsSettled : Option (List Lit) → List Lit → Type 0
IsSettled part lits = IsSomeAnd part (λ refuted. AreAmong refuted lits)

-- the numbers of variables and clauses are those of the solver, what it learned are lessons, and the last literals that were
-- refuted are refuted by it
pub record IsSeries (s : Solving) (n count : ℕ) (part : Option (List Lit)) : Type 0 where
  pub vars : n ≡ s.vars
  pub clauses : count ≡ length s.clauses
  pub learned : AreLessons s.clauses s.learned
  pub refuting : IsRefuting s part

-- values for all variables that make the clauses and the assumed literals true; that the assumed literals meet a conflict; or
-- that as many clauses were learned as allowed, and they meet none
abbrev pub IsFound : Solving → Solving → List Lit → ℕ → Found → Type 0
IsFound old new lits limit (Values values) =
    (length values ≡ new.vars) × MakesAllTrue values new.clauses × HasAll (is_true values) lits
IsFound old new lits limit Refuted = Conflicts (new.clauses ++ new.learned) lits
IsFound old new lits limit Spent =
    (length new.learned ≡ length old.learned + limit) × (Conflicts (new.clauses ++ new.learned) lits → ⊥)

-- the values reach as far as those of a crash of n events
abbrev pub ReachesOrder : ℕ → Found → Type 0
ReachesOrder n (Values values) = order_vars n ≤ length values
ReachesOrder n found = ⊤

-- the answer says the same as what the search ended with: of values, the crash that they say
abbrev pub IsTold : ℕ → Found → SeriesAnswer → Type 0
IsTold n (Values values) (Allowed crash) = IsDecoded n values crash × IsStrictlyIncreasing (drop crash.cut crash.order)
IsTold n Refuted Forbidden = ⊤
IsTold n Spent answer.Spent = ⊤
IsTold n found told = ⊥
