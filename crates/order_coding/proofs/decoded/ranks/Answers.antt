use Rattle.std.proofs.Common.{arith, refl}
use Rattle.order_coding.specs.Decoded.{predecessors}
use Rattle.order_coding.proofs.Counts.{map-next}
use Rattle.order_coding.proofs.decoded.ranks.Goals as goal

pub loop-e-preserved : goal.loop-e-preserved
loop-e-preserved c =
    rw (c.in_ok-push.ensures.items, c.loop-e.invariant, c.predecessors.ensures, map-next (predecessors c.args.n c.args.values.now) c.loop-e.e (omega arith)) refl
