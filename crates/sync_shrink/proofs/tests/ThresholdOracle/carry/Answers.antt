use Rattle.sync_shrink.specs.Counting.{part_low}
use Rattle.sync_shrink.proofs.tests.ThresholdOracle.carry.Goals as goal

pub returns : goal.returns
returns c =
    (part_low c.args.self.now.count c.args.self.now.marks c.args.self.now.least c.args.to.now c.args._from.now c.requires.part c.requires.shown.0, c.held-crash.ensures)
