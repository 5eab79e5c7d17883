use Rattle.conflict_cut.proofs.GeneralLevels.{trail-refuted}
use Rattle.unit_closure.proofs.laws.a_false_clause_refutes.Goals as goal

pub returns : goal.returns
returns c = λ clauses list t id s z. trail-refuted clauses t id s.course z s.reasons
