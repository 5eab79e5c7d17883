use Rattle.clause_store.proofs.LeastSet.{cut-implied, cut-conflicts}
use Rattle.clause_store.proofs.laws.implied_literals_add_nothing.Goals as goal

pub returns-clause-implied : goal.returns-clause-implied
returns-clause-implied c = cut-implied

pub returns-clause-conflicts : goal.returns-clause-conflicts
returns-clause-conflicts c = cut-conflicts
