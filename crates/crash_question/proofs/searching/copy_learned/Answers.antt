use Rattle.std.proofs.Common.{arith}
use Rattle.crash_question.proofs.Copying.{copied_next}
use Rattle.crash_question.proofs.searching.copy_learned.Goals as goal

pub loop-number-preserved : goal.loop-number-preserved
loop-number-preserved c =
    copied_next c.args.vars c.loop-number.number c.args.learned.now.clauses c.clause.result.now c.loop-number.store c.add.new.self (omega (arith, c.loop-number-test.true, c.len-number-end.ensures, c.loop-number.auto)) c.clause.ensures.clause c.loop-number.invariant c.in_ok-add.ensures.added
