use Rattle.std.proofs.Common.{◌<◌, ◌≤◌, ℕ, List, subst, sym, ◌∙◌, ap}
use Rattle.std.specs.List.{All, AllPairs}
use Rattle.litmus_syntax.specs.declared.call.Step.{Step}
use Rattle.sync_parts.specs.Parts.{crash_without}
use Rattle.sync_parts.specs.Sites.{sites_present}
use Rattle.sync_parts.specs.Without.{places_between}
use Rattle.sync_parts.specs.Reaching.{Reaches}
use Rattle.sync_parts.proofs.Between.{between-range, carried}
use Rattle.sync_parts.proofs.crashes.carry.Goals as goal

pub leave_out-requires-clause-ascending : goal.leave_out-requires-clause-ascending
leave_out-requires-clause-ascending c =
    let range = between-range c.args.litmus.now c.args.sites.now c.args.events.now c.args.from.now c.args.to.now c.requires.syncs c.requires.outside c.requires.events c.requires.part c.keeps_rules.ensures.few_events in
    let is = c.places_between-count.ensures.places ∙ ap (λ (body : List Step). places_between body c.args.sites.now c.args.from.now c.args.to.now c.args.events.now.events) c.body.ensures in
    subst (AllPairs (λ (x y : ℕ). x < y)) (sym is) range.0

pub leave_out-requires-clause-within : goal.leave_out-requires-clause-within
leave_out-requires-clause-within c =
    let range = between-range c.args.litmus.now c.args.sites.now c.args.events.now c.args.from.now c.args.to.now c.requires.syncs c.requires.outside c.requires.events c.requires.part c.keeps_rules.ensures.few_events in
    let is = c.places_between-count.ensures.places ∙ ap (λ (body : List Step). places_between body c.args.sites.now c.args.from.now c.args.to.now c.args.events.now.events) c.body.ensures in
    subst (All (λ (x : ℕ). (1 ≤ x) × (x ≤ 128))) (sym is) range.1

pub returns : goal.returns
returns c = λ model r.
    let here = carried c.args.litmus.now c.args.sites.now c.args.events.now c.args.from.now c.args.to.now c.requires.syncs c.requires.outside c.requires.events c.requires.part model c.args.crash.now r in
    let is = c.places_between-count.ensures.places ∙ ap (λ (body : List Step). places_between body c.args.sites.now c.args.from.now c.args.to.now c.args.events.now.events) c.body.ensures in
    let crash = c.leave_out.ensures ∙ ap (λ (places : List ℕ). crash_without places c.args.crash.now) is in
    subst (Reaches c.args.litmus.now model (sites_present c.args.sites.now c.args.to.now)) (sym crash) here
