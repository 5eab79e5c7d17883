use Rattle.clause_store.specs.Propagation.{IsNew}
use Rattle.clause_store.proofs.InTurn.{turn-push, turn-join, turn-split}
use Rattle.clause_store.proofs.laws.new_clauses_grow.Goals as goal

pub returns : goal.returns
returns c = record { clause = turn-push IsNew; joined = turn-join IsNew; cut = turn-split IsNew }
