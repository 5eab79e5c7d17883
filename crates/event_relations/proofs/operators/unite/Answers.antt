use Rattle.std.proofs.Common.{refl, arith}
use Rattle.event_relations.proofs.Changing.{UnitedRow, changed_start, changed_more, changed_end, united_out, united_bits}
use Rattle.event_relations.proofs.operators.unite.Goals as goal

pub loop-a-init : goal.loop-a-init
loop-a-init c = changed_start (UnitedRow c.args.right.now) c.args.left.now

pub loop-a-preserved : goal.loop-a-preserved
loop-a-preserved c = changed_more (UnitedRow c.args.right.now) c.args.left.now c.loop-a.left c.loop-a.a _ c.loop-a.invariant (omega (arith, c.loop-a-test.true, c.loop-a.auto.left)) refl

pub returns-clause-words : goal.returns-clause-words
returns-clause-words c = changed_end (UnitedRow c.args.right.now) c.args.left.now c.loop-a.left c.loop-a.a c.loop-a.invariant c.loop-a.auto.left (omega (arith, c.loop-a-test.false)) (λ d far. united_out c.args.right.now d (omega (arith, far, c.requires.same)))

pub returns-clause-bits : goal.returns-clause-bits
returns-clause-bits c =
    united_bits c.args.left.now c.args.right.now c.loop-a.left
    (changed_end (UnitedRow c.args.right.now) c.args.left.now c.loop-a.left c.loop-a.a c.loop-a.invariant c.loop-a.auto.left (omega (arith, c.loop-a-test.false)) (λ d far. united_out c.args.right.now d (omega (arith, far, c.requires.same))))
