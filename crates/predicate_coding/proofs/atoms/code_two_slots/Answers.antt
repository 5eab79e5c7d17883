use Rattle.std.proofs.Common.{arith}
use Rattle.predicate_coding.proofs.AtomSteps.{two-made}
use Rattle.predicate_coding.proofs.atoms.code_two_slots.Goals as goal

pub returns : goal.returns
returns c =
    two-made c.args.events.now c.args.cells.now c.args.left c.args.right c.loop-p.p-index c.args.store.now c.add_vars.new.store c.loop-p.store c.in_ok-own.own
    c.requires.apart c.in_ok-own.ensures.last c.in_ok-own.ensures.added (omega arith) c.loop-p.invariant.written
