use Rattle.std.proofs.Common.{Err, ◌∙◌, ap}
use Rattle.report.specs.Answers.{LitmusRefused}
use Rattle.ferrite_run.specs.Done.{Tells}
use Rattle.ferrite_run.specs.Reading.{IsNoLitmus}
use Rattle.ferrite_run.proofs.Ready.{stops_more, told_only}
use Rattle.ferrite_run.proofs.reading.read_litmus.Goals as goal

pub returns-in-Err-Refused-clause-unread : goal.returns-in-Err-Refused-clause-unread
returns-in-Err-Refused-clause-unread c =
    let line = c.in-Err-Refused.line in
    let kind = c.in-Err-Refused.kind in
    let refused = c.read.ensures.refused line kind (c.in-Err-Refused.is ∙ ap Err c.in-Err-Refused.field-0-is) in
    stops_more _ (Tells (IsNoLitmus c.args.bytes.now)) c.stopped.result
    (λ a e. told_only (IsNoLitmus c.args.bytes.now) (LitmusRefused line c.number-kind.result) a (line, kind, refused, ap (LitmusRefused line) c.number-kind.ensures) e) c.stopped.ensures.stopped
