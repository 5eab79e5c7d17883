use Rattle.std.proofs.Common.{arith}
use Rattle.rup_checker.proofs.GeneralTrials.{ready-back}
use Rattle.rup_checker.proofs.trials.try_out.Goals as goal

pub returns-then-level-gt0-clause-ready : goal.returns-then-level-gt0-clause-ready
returns-then-level-gt0-clause-ready c =
    ready-back c.args.store.now c.deny_all-trial.new.watches c.deny_all-trial.new.trail c.back_to.new.self c.deny_all-trial.ensures.sound
    (omega (arith, c.if-level-gt0.true, c.level.ensures.level)) c.back_to.ensures
