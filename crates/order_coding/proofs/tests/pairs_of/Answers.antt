use Rattle.std.proofs.Common.{◌∙◌}
use Rattle.order_coding.proofs.Kept.{forward-set}
use Rattle.order_coding.proofs.MarkTraces.{kept-forward}
use Rattle.order_coding.proofs.tests.pairs_of.Goals as goal

pub loop-a-preserved : goal.loop-a-preserved
loop-a-preserved c = record {
  number = c.set.ensures.n ∙ c.loop-a.invariant.number;
  forward = forward-set c.args.n c.loop-a.pairs.pairs c.set.new.self.pairs _ _ c.pairs_are_found.ensures (kept-forward c.args.n c.args.kept.now c.loop-a.a-index (0, 0) c.requires.forward c.loop-a-test.true) c.loop-a.invariant.forward c.set.ensures.pairs;
}
