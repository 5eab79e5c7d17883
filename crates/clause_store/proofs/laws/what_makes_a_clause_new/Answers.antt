use Rattle.clause_store.proofs.LeastSet.{new-closed, new-no_subset}
use Rattle.clause_store.proofs.laws.what_makes_a_clause_new.Goals as goal

pub returns-clause-by_closed_set : goal.returns-clause-by_closed_set
returns-clause-by_closed_set c = new-closed

pub returns-clause-no_subset : goal.returns-clause-no_subset
returns-clause-no_subset c = new-no_subset
