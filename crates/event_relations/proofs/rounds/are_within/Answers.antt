use Rattle.std.proofs.Common.{arith}
use Rattle.event_relations.proofs.Rising.{among_more, among_all, new_at}
use Rattle.event_relations.proofs.rounds.are_within.Goals as goal

pub returns-then-left-a : goal.returns-then-left-a
returns-then-left-a c = new_at c.args.left.now c.args.right.now c.loop-a.a (omega (arith, c.loop-a-test.true, c.requires.same)) (omega (arith, c.type_inv.right c.loop-a.a)) c.if-left-a.true

pub loop-a-preserved : goal.loop-a-preserved
loop-a-preserved c = among_more c.args.left.now c.args.right.now c.loop-a.a c.loop-a.invariant c.if-left-a.false

pub returns : goal.returns
returns c = among_all c.args.left.now c.args.right.now c.loop-a.a c.loop-a.invariant (omega (arith, c.loop-a-test.false))
