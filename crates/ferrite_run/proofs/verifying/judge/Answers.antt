use Rattle.std.proofs.Common.{◌∙◌, ap, subst}
use Rattle.report.specs.Answers.{LogRefused}
use Rattle.rup_checker.specs.Accepting.{IsJudged}
use Rattle.ferrite_run.specs.Done.{Tells}
use Rattle.ferrite_run.specs.Judging.{IsJudgedOver}
use Rattle.ferrite_run.specs.Judging.IsJudgedOver.{wrong}
use Rattle.ferrite_run.proofs.Ready.{replies_more, told_only}
use Rattle.ferrite_run.proofs.verifying.judge.Goals as goal

pub returns-in-Refused : goal.returns-in-Refused
returns-in-Refused c =
    let f = c.args.formula in
    let log = c.args.log.now in
    let line = c.in-Refused.line in
    let kind = c.in-Refused.kind in
    let is = subst (IsJudged f log) c.in-Refused.is c.in_ok-accept.ensures in
    record {
      judged = replies_more _ (Tells (IsJudgedOver f log)) c.replied-in-Refused.result
          (λ a e. told_only (IsJudgedOver f log) (LogRefused line c.from-kind.result) a (wrong line kind is (ap (LogRefused line) (c.from-kind.ensures ∙ c.number.ensures))) e)
          c.replied-in-Refused.ensures.replied;
    }
