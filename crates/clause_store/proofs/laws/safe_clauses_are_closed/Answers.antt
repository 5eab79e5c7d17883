use Rattle.clause_store.proofs.Bridges.{safe-closed, all_safe-closed}
use Rattle.clause_store.proofs.laws.safe_clauses_are_closed.Goals as goal

pub returns : goal.returns
returns c = record { clause = safe-closed; clauses = all_safe-closed }
