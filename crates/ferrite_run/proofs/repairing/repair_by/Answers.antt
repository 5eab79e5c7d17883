use Rattle.std.proofs.Common.{◌≡◌, ◌≤◌, ℕ, List, Option, unwrap_or, length, subst, ap, arith, ◌∙◌, sym}
use Rattle.report.specs.declared.outcome.NeedLine.{NeedLine}
use Rattle.report.specs.Answers.{Repaired}
use Rattle.sync_parts.specs.Sites.{sites_present}
use Rattle.sync_repair.specs.Findings.{AreOpen}
use Rattle.sync_repair.specs.Repairs.{IsRepair}
use Rattle.ferrite_run.specs.Check.{kept_log}
use Rattle.ferrite_run.specs.Repair.{sited_log, IsRepaired}
use Rattle.ferrite_run.specs.Repair.IsRepaired.{none_suffice, repaired, unknown}
use Rattle.ferrite_run.specs.Saying.{Replies}
use Rattle.ferrite_run.specs.Sites.{repaired_by}
use Rattle.ferrite_run.proofs.Ready.{replies_more}
use Rattle.ferrite_run.proofs.Repaired.{all_suffice, left_size, asked_size}
use Rattle.ferrite_run.proofs.repairing.repair_by.Goals as goal

pub returns-in-NoneSuffice : goal.returns-in-NoneSuffice
returns-in-NoneSuffice g c =
    let q = c.args.question.now in
    let sites = c.args.sites.now in
    let is = subst (IsRepair q.litmus q.model sites c.most_learned.result) c.in-NoneSuffice.is c.in_ok-crash.ensures.repaired in
    record {
      repaired = replies_more _ (IsRepaired q c.args.kind sites c.args.search.now) c.tell_none.result (λ a e. none_suffice c.in-NoneSuffice.crash is e) c.tell_none.ensures.told;
    }

pub tell_repaired-requires-clause-few : goal.tell_repaired-requires-clause-few
tell_repaired-requires-clause-few g c =
    let q = c.args.question.now in
    let sites = c.args.sites.now in
    let is = subst (IsRepair q.litmus q.model sites c.most_learned.result) c.in-Repaired.is c.in_ok-crash.ensures.repaired in
    let size = left_size q.litmus q.model sites c.in-Repaired.findings.set is.0 in
    let few = c.requires.listed.few in
    omega (arith, size, few)

pub returns-in-Repaired : goal.returns-in-Repaired
returns-in-Repaired g c =
    let q = c.args.question.now in
    let sites = c.args.sites.now in
    let f = c.in-Repaired.findings in
    let is = subst (IsRepair q.litmus q.model sites c.most_learned.result) c.in-Repaired.is c.in_ok-crash.ensures.repaired in
    let P : List NeedLine → Type 0 = λ needs. Replies (λ done. done ≡ record { answer = Repaired needs (repaired_by q.litmus (sites_present sites f.set)); kept = kept_log c.args.search.now.log (sited_log c.args.kind f) }) c.tell_repaired.result in
    let told : P c.in-Repaired.needs = subst P c.as_slice-needs.ensures c.tell_repaired.ensures.told in
    let never = all_suffice q.litmus q.model sites f.set c.requires.usable.syncs c.requires.usable.outside is.0 in
    record {
      repaired = replies_more _ (IsRepaired q c.args.kind sites c.args.search.now) c.tell_repaired.result
          (λ a e. repaired never c.in-Repaired.needs f is.0 is.1 c.keeps_rules.ensures is.2 e) told;
    }

pub tell_open-requires-clause-few : goal.tell_open-requires-clause-few
tell_open-requires-clause-few g c =
    let q = c.args.question.now in
    let sites = c.args.sites.now in
    let is = subst (IsRepair q.litmus q.model sites c.most_learned.result) c.in-Spent.is c.in_ok-crash.ensures.repaired in
    let size = asked_size q.litmus q.model sites c.in-Spent.findings.set is.0 in
    let few = c.requires.listed.few in
    omega (arith, size, few)

pub returns : goal.returns
returns g c =
    let q = c.args.question.now in
    let sites = c.args.sites.now in
    let f = c.in-Spent.findings in
    let is = subst (IsRepair q.litmus q.model sites c.most_learned.result) c.in-Spent.is c.in_ok-crash.ensures.repaired in
    let limit = c.most_learned.ensures ∙ ap (λ (o : Option ℕ). unwrap_or o 18446744073709551615) c.in-Some.is in
    let leaves = subst (λ (n : ℕ). AreOpen q.litmus q.model sites n f) limit is.1 in
    record {
      repaired = replies_more _ (IsRepaired q c.args.kind sites c.args.search.now) c.tell_open.result
          (λ a e. unknown c.in-Some.limit c.in-Some.is f is.0 c.keeps_rules-in-Spent.ensures leaves e) c.tell_open.ensures.told;
    }
