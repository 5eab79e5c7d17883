use Rattle.clause_store.proofs.LeastSet.{closed-implied, closed-no_conflict}
use Rattle.clause_store.proofs.laws.closed_sets_bound_propagation.Goals as goal

pub returns-clause-implied : goal.returns-clause-implied
returns-clause-implied c = closed-implied

pub returns-clause-no_conflict : goal.returns-clause-no_conflict
returns-clause-no_conflict c = closed-no_conflict
