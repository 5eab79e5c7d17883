use Rattle.clause_store.proofs.LeastSet.{true-implied, true-conflict, true-follows, true-refuted}
use Rattle.clause_store.proofs.laws.what_follows_is_true.Goals as goal

pub returns-clause-implied : goal.returns-clause-implied
returns-clause-implied c = true-implied

pub returns-clause-no_conflict : goal.returns-clause-no_conflict
returns-clause-no_conflict c = true-conflict

pub returns-clause-clause : goal.returns-clause-clause
returns-clause-clause c = true-follows

pub returns-clause-refuted : goal.returns-clause-refuted
returns-clause-refuted c = true-refuted
