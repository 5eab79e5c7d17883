use Rattle.std.proofs.Common.{List, subst}
use Rattle.litmus_syntax.specs.declared.site.Site.{Site}
use Rattle.ferrite_run.specs.Repair.{IsRepaired}
use Rattle.ferrite_run.specs.Sites.{ListSites}
use Rattle.ferrite_run.specs.Steps.Step.{goes_on}
use Rattle.ferrite_run.proofs.Ready.{replies_more}
use Rattle.ferrite_run.proofs.repairing.repair_question.Goals as goal

pub returns : goal.returns
returns g c =
    let q = c.args.question.now in
    let kind = c.args.kind in
    let search = c.args.search.now in
    record {
      repaired = replies_more (IsRepaired q kind c.as_slice.result.now search) (ListSites q kind (λ sites. IsRepaired q kind sites search)) c.repair_by.result
          (λ a h. goes_on c.in_ok-sites.sites c.in_ok-sites.ensures.listed (subst (λ (sites : List Site). IsRepaired q kind sites search a) c.as_slice.ensures h))
          c.repair_by.ensures.repaired;
    }
