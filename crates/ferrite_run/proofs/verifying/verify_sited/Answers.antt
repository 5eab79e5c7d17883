use Rattle.std.proofs.Common.{refl, subst}
use Rattle.sync_sites.specs.Faults.{IsFaultOf}
use Rattle.report.specs.Answers.{LogRefused}
use Rattle.ferrite_run.specs.Done.{Tells}
use Rattle.ferrite_run.specs.Verify.{IsVerified}
use Rattle.ferrite_run.specs.Verify.IsVerified.{unsited}
use Rattle.ferrite_run.specs.Verify.LacksSites.{too_many}
use Rattle.ferrite_run.proofs.Ready.{replies_more, told_only}
use Rattle.ferrite_run.proofs.verifying.verify_sited.Goals as goal

pub returns-in-Err-TooManyEvents : goal.returns-in-Err-TooManyEvents
returns-in-Err-TooManyEvents c =
    let q = c.args.question.now in
    let log = c.args.log.now in
    let line = c.in-Err-TooManyEvents.field-0-0 in
    let many = subst (IsFaultOf c.args.kind q.litmus.body q.events) c.in-Err-TooManyEvents.field-0-is c.in-Err-TooManyEvents.ensures.refused in
    record {
      verified = replies_more _ (Tells (IsVerified q log)) c.replied.result
          (λ a e. told_only (IsVerified q log) (LogRefused 2 5) a (unsited (too_many c.args.kind c.requires.of_kind line many) refl) e) c.replied.ensures.replied;
    }
