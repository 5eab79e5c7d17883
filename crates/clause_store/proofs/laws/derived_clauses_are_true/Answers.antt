use Rattle.clause_store.proofs.InTurn.{derived-true, derived-refuted}
use Rattle.clause_store.proofs.laws.derived_clauses_are_true.Goals as goal

pub returns : goal.returns
returns c = record { derived = derived-true; refuted = derived-refuted }
