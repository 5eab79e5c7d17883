use Rattle.clause_store.proofs.LeastSet.{more-implied, more-conflicts, more-follows}
use Rattle.clause_store.proofs.laws.more_imply_more.Goals as goal

pub returns-clause-implied : goal.returns-clause-implied
returns-clause-implied c = more-implied

pub returns-clause-conflicts : goal.returns-clause-conflicts
returns-clause-conflicts c = more-conflicts

pub returns-clause-follows : goal.returns-clause-follows
returns-clause-follows c = more-follows
