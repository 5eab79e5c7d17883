use Rattle.std.proofs.Common.{[], refl}
use Rattle.ferrite_run.specs.Done.{Tells}
use Rattle.ferrite_run.specs.Judging.{IsJudgedOver}
use Rattle.ferrite_run.specs.Verify.{IsVerified}
use Rattle.ferrite_run.specs.Verify.IsAbout.{plain}
use Rattle.ferrite_run.proofs.Judged.{judged_done}
use Rattle.ferrite_run.proofs.Ready.{replies_more}
use Rattle.ferrite_run.proofs.verifying.verify_plain.Goals as goal

pub returns : goal.returns
returns c =
    let q = c.args.question.now in
    let log = c.args.log.now in
    let f = c.in_ok-formula.formula in
    record {
      verified = replies_more (Tells (IsJudgedOver f log)) (Tells (IsVerified q log)) c.judge.result
          (judged_done q log [] f (plain c.requires.plain refl c.in_ok-formula.ensures.clauses) c.accepted_logs_refute.ensures c.in_ok-formula.ensures.reached) c.judge.ensures.judged;
    }
