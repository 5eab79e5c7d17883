use Rattle.clause_store.specs.Propagation.{Follows}
use Rattle.clause_store.proofs.InTurn.{turn-push, turn-join, turn-split, follows-more}
use Rattle.clause_store.proofs.laws.derivations_grow.Goals as goal

pub returns : goal.returns
returns c = record { clause = turn-push Follows; joined = turn-join Follows; cut = turn-split Follows; more_given = follows-more }
