use Rattle.clause_store.proofs.Counting.{new-differ, new-few}
use Rattle.clause_store.proofs.laws.new_clauses_are_few.Goals as goal

pub returns : goal.returns
returns c = record { differ = new-differ; few = new-few }
