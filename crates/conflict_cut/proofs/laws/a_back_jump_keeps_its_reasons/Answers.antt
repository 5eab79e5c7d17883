use Rattle.conflict_cut.proofs.GeneralReasons.{reasons-back, reasons-more}
use Rattle.conflict_cut.proofs.laws.a_back_jump_keeps_its_reasons.Goals as goal

pub returns-clause-back : goal.returns-clause-back
returns-clause-back c = reasons-back

pub returns-clause-more : goal.returns-clause-more
returns-clause-more c = reasons-more
