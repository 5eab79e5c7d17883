use Rattle.std.proofs.Common.{List, subst}
use Rattle.litmus_syntax.specs.declared.site.Site.{Site}
use Rattle.litmus_syntax.specs.declared.site.SiteKind.TheVariants.{Sync}
use Rattle.ferrite_run.specs.Done.{Tells}
use Rattle.ferrite_run.specs.Sites.{ListSites}
use Rattle.ferrite_run.specs.Steps.Step.{goes_on}
use Rattle.ferrite_run.specs.Working.{IsWorkedBy}
use Rattle.ferrite_run.proofs.Ready.{replies_more}
use Rattle.ferrite_run.proofs.working.work_question.Goals as goal

pub returns : goal.returns
returns g c =
    let q = c.args.question.now in
    let seed = c.args.seed in
    let calls = c.args.calls in
    record {
      worked = replies_more (Tells (IsWorkedBy seed calls q c.as_slice.result.now)) (ListSites q Sync (λ sites. Tells (IsWorkedBy seed calls q sites))) c.work_by.result
          (λ a h. goes_on c.in_ok-sites.sites c.in_ok-sites.ensures.listed (subst (λ (sites : List Site). Tells (IsWorkedBy seed calls q sites) a) c.as_slice.ensures h))
          c.work_by.ensures.worked;
    }
