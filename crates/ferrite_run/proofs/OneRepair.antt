-- Sites are listed in one way, and a repair over them has one answer, but for the crashes and the log that show it.
use Rattle.std.proofs.Common.{◌≡◌, ℕ, zero, suc, ◌+◌, ◌-◌, ◌<◌, ◌≤◌, List, Bool, length, inl, inr, sym, ◌∙◌, ap, arith, length-append}
use Rattle.std.proofs.lemmas.Option.{slice_get_within}
use Rattle.litmus_syntax.specs.declared.call.Step.{Step}
use Rattle.litmus_syntax.specs.declared.site.Site.{Site}
use Rattle.litmus_syntax.specs.declared.site.SiteKind.{SiteKind}
use Rattle.fer_events.specs.Tables.{Trace}
use Rattle.call_events.specs.declared.call_kind.CallKind.TheVariants.{TooManyEvents}
use Rattle.call_events.specs.Refusals as call_kind
use Rattle.sync_sites.specs.SiteLists.{sites_behind, sites_upto, sites_of, events_with_sites, AreTooMany}
use Rattle.sync_sites.proofs.Steps.{sites_more}
use Rattle.sync_parts.specs.Sites.{sites_present}
use Rattle.sync_shrink.proofs.WalkLaws.{one-walk}
use Rattle.sync_repair.specs.Sets.{IsBad}
use Rattle.command_line.specs.declared.commands.SearchOptions.{SearchOptions}
use Rattle.report.specs.Answers.{LitmusRefused, Repaired, NoneSuffice, Work}
use Rattle.ferrite_run.specs.declared.question.Question.{Question}
use Rattle.ferrite_run.specs.Agreeing.{Agree}
use Rattle.ferrite_run.specs.Agreeing.Agree.{same, repaired as both_repaired, none_suffice as both_need_more, left_open}
use Rattle.ferrite_run.specs.Done.{Done, Tells}
use Rattle.ferrite_run.specs.Sites.{HasTooMany, AreSitesOf, repaired_by}
use Rattle.ferrite_run.specs.Repair.{IsRepaired}
use Rattle.ferrite_run.specs.Repair.IsRepaired.{none_suffice as too_little, repaired, unknown}
use Rattle.ferrite_run.specs.Work.{summary_of}
use Rattle.ferrite_run.specs.Working.{IsWorkedBy}
use Rattle.ferrite_run.specs.Working.IsWorkedBy.{worked, none_suffice as nothing_suffices}
use Rattle.ferrite_run.proofs.Rows.{IsOneStep, one_told, is_only}
use Rattle.ferrite_run.proofs.Single.{Laws}

-- sites of more calls are no fewer
more_sites : (kind : SiteKind) (body : List Step) (t : Trace) (k n : ℕ) → events_with_sites kind body t k ≤ events_with_sites kind body t (k + n)
more_sites kind body t k zero = let e : k + zero ≡ k = omega arith in omega (arith, ap (events_with_sites kind body t) e)
more_sites kind body t k (suc n) =
    let e : k + suc n ≡ k + n + 1 = omega arith in
    let longer : length (sites_upto kind body t (k + n + 1)) ≡ length (sites_upto kind body t (k + n)) + length (sites_behind kind body t (k + n + 1)) =
    ap (λ (s : List Site). length s) (sites_more kind body t (k + n)) ∙ length-append (sites_upto kind body t (k + n)) (sites_behind kind body t (k + n + 1)) in
    omega (arith, more_sites kind body t k n, longer, ap (events_with_sites kind body t) e)

-- where there are too many behind some call, there are too many in all
over_all : (kind : SiteKind) (body : List Step) (t : Trace) (line : ℕ) → AreTooMany kind body t line → 128 < length t.events + length (sites_of kind body t)
over_all kind body t line many =
    let there : many.before < length body = slice_get_within body many.before many.step many.there in
    let e : many.before + 1 + (length body - (many.before + 1)) ≡ length body = omega (arith, there) in
    omega (arith, many.over, more_sites kind body t (many.before + 1) (length body - (many.before + 1)), ap (events_with_sites kind body t) e)

pub never_listed : (q : Question) (kind : SiteKind) (line : ℕ) (sites : List Site) → AreTooMany kind q.litmus.body q.events line → AreSitesOf q kind sites → ⊥
never_listed q kind line sites many are = omega (arith, over_all kind q.litmus.body q.events line many, are.few, ap (λ (s : List Site). length s) are.listed)

pub one_listing : Laws → (q : Question) (kind : SiteKind) → IsOneStep (List Site) (HasTooMany q kind) (AreSitesOf q kind)
one_listing laws q kind = record {
  one_end = λ a b (i, h, e) (j, g, f).
      e ∙ ap (λ (n : ℕ). LitmusRefused n (call_kind.kind_number TooManyEvents)) (laws.one_line kind q.litmus.body q.events i j h g) ∙ sym f;
  one_yield = λ x y h g. h.listed ∙ sym g.listed;
  apart = λ a x (i, h, e) are. never_listed q kind i x h are;
}

pub one_repair : (q : Question) (kind : SiteKind) (sites : List Site) (search : SearchOptions) (a b : Done) → IsRepaired q kind sites search a → IsRepaired q kind sites search b → Agree a b
one_repair q kind sites search a b (too_little c shows e) (too_little d shown f) = both_need_more c d (repaired_by q.litmus sites) e f
one_repair q kind sites search a b (too_little c shows e) (repaired never needs g left are rules closed f) = absurd (never (c, shows))
one_repair q kind sites search a b (repaired never needs g left are rules closed e) (too_little c shows f) = absurd (never (c, shows))
one_repair q kind sites search a b (repaired never needs g left are rules closed e) (repaired none others h leaves show keeps shut f) =
    let set : g.set ≡ h.set = one-walk (IsBad q.litmus q.model sites) (length sites) (length sites) g.set h.set left leaves in
    let count : length needs ≡ length others = are.counted ∙ ap (λ (s : List Bool). length (sites_present sites s)) set ∙ sym show.counted in
    both_repaired needs others (repaired_by q.litmus (sites_present sites g.set)) count (ap (λ (d : Done). d.answer) e)
    (ap (λ (d : Done). d.answer) f ∙ ap (λ (s : List Bool). Repaired others (repaired_by q.litmus (sites_present sites s))) (sym set))
one_repair q kind sites search a b (unknown limit is g asked rules leaves e) _ = left_open limit (inl (ap (λ (d : Done). d.answer) e))
one_repair q kind sites search a b (too_little c shows e) (unknown limit is g asked rules leaves f) = left_open limit (inr (ap (λ (d : Done). d.answer) f))
one_repair q kind sites search a b (repaired never needs g left are rules closed e) (unknown limit is h asked keeps leaves f) =
    left_open limit (inr (ap (λ (d : Done). d.answer) f))

pub one_work : (seed calls : ℕ) (q : Question) (sites : List Site) (a b : Done) → Tells (IsWorkedBy seed calls q sites) a → Tells (IsWorkedBy seed calls q sites) b → Agree a b
one_work seed calls q sites a b (worked never s left e, none) (worked neither t leaves f, nothing) =
    let set : s ≡ t = one-walk (IsBad q.litmus q.model sites) (length sites) (length sites) s t left leaves in
    same (one_told a b (e ∙ ap (λ (l : List Bool). Work (summary_of seed calls q sites l)) set ∙ sym f) none nothing)
one_work seed calls q sites a b (worked never s left e, none) (nothing_suffices c shows f, nothing) = absurd (never (c, shows))
one_work seed calls q sites a b (nothing_suffices c shows e, none) (worked never s left f, nothing) = absurd (never (c, shows))
one_work seed calls q sites a b (nothing_suffices c shows e, none) (nothing_suffices d shown f, nothing) =
    both_need_more c d (repaired_by q.litmus sites) (is_only a (NoneSuffice c (repaired_by q.litmus sites)) e none) (is_only b (NoneSuffice d (repaired_by q.litmus sites)) f nothing)
