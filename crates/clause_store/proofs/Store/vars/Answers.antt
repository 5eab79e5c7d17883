use Rattle.clause_store.specs.Clauses.{InVars}
use Rattle.clause_store.proofs.Pieces.{All-pieces}
use Rattle.clause_store.proofs.Store.vars.Goals as goal

pub returns-clause-named : goal.returns-clause-named
returns-clause-named c =
    rw (← c.self.view_is)
    (All-pieces (InVars c.self.inside.vars) 0 c.self.inside.ends.items c.self.inside.lits.items c.self.invariant.named)
