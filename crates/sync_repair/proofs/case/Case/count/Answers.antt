use Rattle.std.proofs.Common.{arith}
use Rattle.sync_repair.proofs.Counts.{few-sites}
use Rattle.sync_repair.proofs.case.Case.count.Goals as goal

pub overflow_cast-result : goal.overflow_cast-result
overflow_cast-result c =
    let few = few-sites c.self.inside.litmus.now c.self.inside.sites.now c.self.inside.events.now c.self.invariant.in_order c.keeps_rules-2.ensures c.self.invariant.syncs c.self.invariant.resolved in
    omega (arith, few)
