use Rattle.conflict_cut.proofs.GeneralReasons.{unit-after}
use Rattle.conflict_cut.proofs.laws.a_cut_is_unit_after_the_jump.Goals as goal

pub returns : goal.returns
returns c = unit-after
