-- What a store holds while clauses are written into it.
use Rattle.std.specs.Prelude.{◌≡◌, List, ◌++◌}
use Rattle.clause_store.specs.declared.Lit.{Lit}
use Rattle.clause_store.specs.Clauses.{Formula}

-- the formula has the variables of the whole and the first of its clauses
pub record IsBeginning (formula whole : Formula) : Type 0 where
  pub vars : formula.vars ≡ whole.vars
  pub rest : List (List Lit)
  pub clauses : whole.clauses ≡ formula.clauses ++ rest

-- the formula with these clauses behind its own
abbrev pub joined : Formula → List (List Lit) → Formula
joined formula more = record formula { clauses = formula.clauses ++ more }
