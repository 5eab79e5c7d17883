use Rattle.conflict_cut.proofs.GeneralReasons.{reasons-none, reasons-decided, reasons-implied}
use Rattle.conflict_cut.proofs.laws.a_longer_trail_keeps_its_reasons.Goals as goal

pub returns-clause-none : goal.returns-clause-none
returns-clause-none c = reasons-none

pub returns-clause-decided : goal.returns-clause-decided
returns-clause-decided c = reasons-decided

pub returns-clause-implied : goal.returns-clause-implied
returns-clause-implied c = reasons-implied
