use Rattle.conflict_cut.proofs.GeneralLevels.{trail-implied, trail-conflicts, trail-refuted}
use Rattle.conflict_cut.proofs.laws.decisions_imply_the_trail.Goals as goal

pub returns-clause-implied : goal.returns-clause-implied
returns-clause-implied c = trail-implied

pub returns-clause-conflicts : goal.returns-clause-conflicts
returns-clause-conflicts c = trail-conflicts

pub returns-clause-refuted : goal.returns-clause-refuted
returns-clause-refuted c = trail-refuted
