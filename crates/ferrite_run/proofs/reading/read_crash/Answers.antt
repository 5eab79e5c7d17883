use Rattle.std.proofs.Common.{Err, ◌∙◌, refl, ap}
use Rattle.report.specs.Answers.{CrashUnread}
use Rattle.ferrite_run.specs.Done.{Tells}
use Rattle.ferrite_run.specs.Reading.{IsNoCrash}
use Rattle.ferrite_run.proofs.Ready.{stops_more, told_only}
use Rattle.ferrite_run.proofs.reading.read_crash.Goals as goal

pub returns-in-Err-BadText-clause-unread : goal.returns-in-Err-BadText-clause-unread
returns-in-Err-BadText-clause-unread c =
    let unread = c.read.ensures.unread (c.in-Err-BadText.is ∙ ap Err c.in-Err-BadText.field-0-is) in
    stops_more _ (Tells (IsNoCrash c.args.bytes.now)) c.stopped.result (λ a e. told_only (IsNoCrash c.args.bytes.now) CrashUnread a (unread, refl) e) c.stopped.ensures.stopped
