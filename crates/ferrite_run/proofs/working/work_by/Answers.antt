use Rattle.std.proofs.Common.{◌≡◌, ◌≤◌, ℕ, List, length, subst, ap, arith, ◌∙◌, refl, sym}
use Rattle.report.specs.declared.outcome.Summary.{Summary}
use Rattle.report.specs.Answers.{Work, NoneSuffice}
use Rattle.sync_parts.specs.Sites.{sites_present}
use Rattle.sync_shrink.specs.Sets.{things_in}
use Rattle.sync_repair.proofs.Lining.{present-count}
use Rattle.sync_repair.specs.Repairs.{IsRepair}
use Rattle.ferrite_run.specs.Done.{only, Tells}
use Rattle.ferrite_run.specs.Saying.{Replies}
use Rattle.ferrite_run.specs.Sites.{repaired_by}
use Rattle.ferrite_run.specs.Repair.{site_numbers}
use Rattle.ferrite_run.proofs.Numbers.{numbers_few}
use Rattle.ferrite_run.specs.Work.{summary_of}
use Rattle.ferrite_run.specs.Working.{IsWorkedBy}
use Rattle.ferrite_run.specs.Working.IsWorkedBy.{worked, none_suffice}
use Rattle.ferrite_run.proofs.Ready.{replies_more, told_only}
use Rattle.ferrite_run.proofs.Repaired.{all_suffice, left_size}
use Rattle.ferrite_run.proofs.working.work_by.Goals as goal

pub returns-in-NoneSuffice : goal.returns-in-NoneSuffice
returns-in-NoneSuffice g c =
    let q = c.args.question.now in
    let sites = c.args.sites.now in
    let is = subst (IsRepair q.litmus q.model sites 18446744073709551615) c.in-NoneSuffice.is c.in_ok-crash.ensures.repaired in
    let crash = c.in-NoneSuffice.crash in
    record {
      worked = replies_more _ (Tells (IsWorkedBy c.args.seed c.args.calls q sites)) c.tell_none.result
          (λ a e. told_only (IsWorkedBy c.args.seed c.args.calls q sites) (NoneSuffice crash (repaired_by q.litmus sites)) a (none_suffice crash is refl) e) c.tell_none.ensures.told;
    }

pub tell_work-requires-clause-kept : goal.tell_work-requires-clause-kept
tell_work-requires-clause-kept g c =
    let q = c.args.question.now in
    let sites = c.args.sites.now in
    let set = c.in-Repaired.findings.set in
    let is = subst (IsRepair q.litmus q.model sites 18446744073709551615) c.in-Repaired.is c.in_ok-crash.ensures.repaired in
    let size = left_size q.litmus q.model sites set is.0 in
    let count = c.len.ensures ∙ is.1.counted ∙ present-count 1 sites set size in
    let few = numbers_few set (site_numbers set) refl in
    let most = c.requires.listed.few in
    omega (arith, size, count, few, most)

pub returns-in-Repaired : goal.returns-in-Repaired
returns-in-Repaired g c =
    let q = c.args.question.now in
    let sites = c.args.sites.now in
    let seed = c.args.seed in
    let calls = c.args.calls in
    let set = c.in-Repaired.findings.set in
    let is = subst (IsRepair q.litmus q.model sites 18446744073709551615) c.in-Repaired.is c.in_ok-crash.ensures.repaired in
    let size = left_size q.litmus q.model sites set is.0 in
    let count = c.len.ensures ∙ is.1.counted ∙ present-count 0 sites set size in
    let never = all_suffice q.litmus q.model sites set c.requires.usable.syncs c.requires.usable.outside is.0 in
    let summary : ℕ → Summary = λ kept. record {
      seed = seed;
      calls = calls;
      events = length q.events.events;
      sites = length sites;
      pairs = length q.pairs.pairs;
      kept = kept;
    } in
    let P : ℕ → Type 0 = λ kept. Replies (λ done. done ≡ only (Work (summary kept))) c.tell_work.result in
    let told : P (length (things_in set)) = subst P count c.tell_work.ensures.told in
    record {
      worked = replies_more _ (Tells (IsWorkedBy seed calls q sites)) c.tell_work.result
          (λ a e. told_only (IsWorkedBy seed calls q sites) (Work (summary_of seed calls q sites set)) a (worked never set is.0 refl) e) told;
    }
