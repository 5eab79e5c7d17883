use Rattle.conflict_cut.proofs.GeneralReasons.{conflict-present}
use Rattle.conflict_cut.proofs.laws.a_new_conflict_has_a_present_literal.Goals as goal

pub returns : goal.returns
returns c = conflict-present
