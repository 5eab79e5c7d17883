use Rattle.std.proofs.Common.{List, sym, ◌∙◌, ap, subst}
use Rattle.litmus_syntax.specs.Test.{Test}
use Rattle.litmus_syntax.specs.declared.site.Site.{Site}
use Rattle.litmus_syntax.specs.Sites.{StandOutside}
use Rattle.fer_events.specs.Tables.{Trace}
use Rattle.call_events.specs.Resolved.{HasEvents}
use Rattle.sync_parts.specs.Sites.{sites_present}
use Rattle.sync_repair.specs.Repairs.{AreNeeds}
use Rattle.sync_repair.proofs.Kepts.{some-syncs, some-outside, some-resolved}
use Rattle.sync_repair.proofs.needs.need_lines.Goals as goal

pub events_with-requires-clause-syncs : goal.events_with-requires-clause-syncs
events_with-requires-clause-syncs c =
    let s = c.args.case.now in
    let same = c.as_slice.ensures ∙ c.in_ok-kept.ensures ∙ ap (λ (l : List Site). sites_present l c.args.set.now) c.sites.ensures in
    some-syncs s.sites c.as_slice.result.now c.args.set.now same c.keeps_rules.ensures.syncs

pub events_with-requires-clause-outside : goal.events_with-requires-clause-outside
events_with-requires-clause-outside c =
    let s = c.args.case.now in
    let same = c.as_slice.ensures ∙ c.in_ok-kept.ensures ∙ ap (λ (l : List Site). sites_present l c.args.set.now) c.sites.ensures in
    subst (λ (t : Test). StandOutside t.body c.as_slice.result.now) (sym c.litmus.ensures)
    (some-outside s.litmus s.sites c.as_slice.result.now c.args.set.now same c.keeps_rules.ensures.outside)

pub events_with-requires-clause-resolved : goal.events_with-requires-clause-resolved
events_with-requires-clause-resolved c =
    let s = c.args.case.now in
    let is = c.keeps_rules.ensures in
    let same = c.as_slice.ensures ∙ c.in_ok-kept.ensures ∙ ap (λ (l : List Site). sites_present l c.args.set.now) c.sites.ensures in
    subst (λ (t : Test). (x : Trace) × HasEvents t c.as_slice.result.now x) (sym c.litmus.ensures)
    (some-resolved s.litmus s.sites c.as_slice.result.now c.args.set.now s.all same is.syncs is.outside is.resolved)

pub lines_of-requires-clause-kept : goal.lines_of-requires-clause-kept
lines_of-requires-clause-kept c =
    let same = c.as_slice-2.ensures ∙ c.in_ok-kept.ensures ∙ ap (λ (l : List Site). sites_present l c.args.set.now) c.sites.ensures in
    (c.args.set.now, same, c.requires)

pub lines_of-requires-clause-resolved : goal.lines_of-requires-clause-resolved
lines_of-requires-clause-resolved c =
    let again = c.as_slice.ensures ∙ sym c.as_slice-2.ensures in
    subst (λ (t : Test). HasEvents t c.as_slice-2.result.now c.in_ok-events.events) c.litmus.ensures
    (subst (λ (l : List Site). HasEvents c.litmus.result.now l c.in_ok-events.events) again c.in_ok-events.ensures.resolved)

pub returns : goal.returns
returns c =
    let same = c.as_slice-2.ensures ∙ c.in_ok-kept.ensures ∙ ap (λ (l : List Site). sites_present l c.args.set.now) c.sites.ensures in
    subst (λ (l : List Site). AreNeeds c.args.case.now.litmus c.args.case.now.model l c.in_ok-lines.lines) same c.in_ok-lines.ensures
