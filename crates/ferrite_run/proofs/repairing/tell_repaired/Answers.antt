use Rattle.std.proofs.Common.{◌≡◌, Bool, List, ◌∙◌, ap, subst}
use Rattle.litmus_syntax.specs.Test.{Test}
use Rattle.proof_log.specs.Logs.{Logged}
use Rattle.sync_parts.specs.Sites.{sites_present}
use Rattle.report.specs.Answers.{Repaired}
use Rattle.ferrite_run.specs.Check.{kept_log}
use Rattle.ferrite_run.specs.Repair.{sited_log}
use Rattle.ferrite_run.specs.Saying.{Replies}
use Rattle.ferrite_run.specs.Sites.{repaired_by}
use Rattle.ferrite_run.proofs.repairing.tell_repaired.Goals as goal

pub returns : goal.returns
returns c =
    let P : Test → Logged → Type 0 = λ test log. Replies (λ done. done ≡ record { answer = Repaired c.args.needs.now test; kept = kept_log c.args.search.now.log log }) c.replied_with.result in
    let test = repaired_by c.args.question.now.litmus (sites_present c.args.sites.now c.args.findings.set) in
    record { told = subst (P test) c.in_ok-log.ensures (subst (λ t. P t c.in_ok-log.log) (c.in_ok-litmus.ensures ∙ ap (λ (set : List Bool). repaired_by c.args.question.now.litmus (sites_present c.args.sites.now set)) c.as_slice.ensures) c.replied_with.ensures.replied) }
