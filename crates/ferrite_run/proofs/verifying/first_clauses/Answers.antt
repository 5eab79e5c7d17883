use Rattle.std.proofs.Common.{List, refl, ◌∙◌, sym, subst}
use Rattle.litmus_syntax.specs.declared.site.Site.{Site}
use Rattle.call_events.specs.Resolved.{HasEvents}
use Rattle.fer_events.specs.Tables.{Trace}
use Rattle.sync_parts.specs.Sites.{sites_present}
use Rattle.sync_parts.specs.Reaching.{IsReachable}
use Rattle.sync_repair.proofs.Kepts.{some-syncs, some-outside, some-resolved}
use Rattle.ferrite_run.specs.Judging.{IsSatisfiable, IsSitedFormula}
use Rattle.ferrite_run.specs.Verify.IsAbout.{sited}
use Rattle.ferrite_run.proofs.verifying.first_clauses.Goals as goal

pub sited_clauses-requires-clause-syncs : goal.sited_clauses-requires-clause-syncs
sited_clauses-requires-clause-syncs c =
    some-syncs c.args.sites.now c.as_slice.result.now c.args.set.now (c.as_slice.ensures ∙ c.in_ok-present.ensures) c.requires.usable.syncs

pub sited_clauses-requires-clause-outside : goal.sited_clauses-requires-clause-outside
sited_clauses-requires-clause-outside c =
    some-outside c.args.question.now.litmus c.args.sites.now c.as_slice.result.now c.args.set.now (c.as_slice.ensures ∙ c.in_ok-present.ensures) c.requires.usable.outside

pub sited_clauses-requires-clause-resolved : goal.sited_clauses-requires-clause-resolved
sited_clauses-requires-clause-resolved c =
    some-resolved c.args.question.now.litmus c.args.sites.now c.as_slice.result.now c.args.set.now c.requires.usable.events.0 (c.as_slice.ensures ∙ c.in_ok-present.ensures)
    c.requires.usable.syncs c.requires.usable.outside c.requires.usable.events.1

pub returns-clause-about : goal.returns-clause-about
returns-clause-about c = λ kind named.
    let same = c.as_slice.ensures ∙ c.in_ok-present.ensures in
    let is = subst (λ (present : List Site). IsSitedFormula c.args.question.now present c.in_ok-store.store) same c.in_ok-store.ensures.clauses in
    sited kind c.args.sites.now c.args.set.now named c.requires.first refl is.trace is.resolved is.kept is.are is.is

pub returns-clause-reached : goal.returns-clause-reached
returns-clause-reached c = λ reach.
    let same = c.as_slice.ensures ∙ c.in_ok-present.ensures in
    c.in_ok-store.ensures.reached (subst (λ (present : List Site). IsReachable c.args.question.now.litmus c.args.question.now.model present) (sym same) reach)
