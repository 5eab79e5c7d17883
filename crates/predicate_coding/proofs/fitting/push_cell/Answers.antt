use Rattle.std.proofs.Common.{arith}
use Rattle.predicate_coding.proofs.Steps.{unsuited_next}
use Rattle.predicate_coding.proofs.fitting.push_cell.Goals as goal

pub loop-j-preserved : goal.loop-j-preserved
loop-j-preserved c = record {
  within = omega arith;
  added =
      unsuited_next c.args.events.now c.args.asked.now c.args.c.now c.loop-j.j c.args.out.now.items c.loop-j.out.items c.push_unsuited.new.out.items
      c.loop-j.invariant.added c.in_ok-push_unsuited.ensures;
}
