-- What a question to a solver is answered with, and what may be learned on the way.
use Rattle.std.specs.Prelude.{◌≡◌, ℕ, ◌<◌, ◌++◌, List, [], length}
use Rattle.std.specs.List.{Contains}
use Rattle.clause_store.specs.declared.Lit.{Lit}
use Rattle.clause_store.specs.Propagation.{Follows, HasAll, negations}
use Rattle.clause_store.specs.Derivations.{EachFollows, EachIsNew}
use Rattle.clause_store.specs.Truth.{is_true, MakesAllTrue}
use Rattle.cdcl_core.specs.declared.Verdict.{Verdict}
use Rattle.cdcl_core.specs.declared.Verdict.TheVariants.{Satisfied, Refuted, Spent}

-- how many variables there are, the clauses that were given, and those that were learned
pub record Solving : Type 0 where
  pub vars : ℕ
  pub clauses : List (List Lit)
  pub learned : List (List Lit)

-- clauses that may be learned one after the other: each follows by unit propagation from those before it and is new to
-- them, and none is empty
pub record AreLessons (before more : List (List Lit)) : Type 0 where
  pub follow : EachFollows before more
  pub new : EachIsNew before more
  pub some : Contains more [] → ⊥

-- what a verdict says. Satisfied: the values, one for each variable, make all given clauses and all assumptions true.
-- Refuted: the part is of assumptions, and the clause of its negations follows by unit propagation from the given clauses
-- and the learned ones. Spent: so many clauses are learned, which are below the greatest limit, and the clause of the
-- negations of all assumptions doesn't follow so
abbrev pub IsVerdict : Solving → List Lit → ℕ → Verdict → Type 0
IsVerdict s assumptions limit (Satisfied values) =
    (length values ≡ s.vars) × MakesAllTrue values s.clauses × HasAll (is_true values) assumptions
IsVerdict s assumptions limit (Refuted part) =
    ((a : Lit) → Contains part a → Contains assumptions a) × Follows (s.clauses ++ s.learned) (negations part)
IsVerdict s assumptions limit Spent =
    (length s.learned ≡ limit) × (Follows (s.clauses ++ s.learned) (negations assumptions) → ⊥) × (limit < 18446744073709551615)
