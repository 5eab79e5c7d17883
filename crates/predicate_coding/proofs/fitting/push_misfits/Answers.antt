use Rattle.std.proofs.Common.{arith}
use Rattle.predicate_coding.proofs.Steps.{misfits_all}
use Rattle.predicate_coding.proofs.fitting.push_misfits.Goals as goal

pub returns : goal.returns
returns c =
    misfits_all c.args.events.now c.args.cells.now c.args.asked.now c.args.file c.loop-c.c-index c.args.out.now.items c.loop-c.out.items (omega arith)
    c.loop-c.invariant
