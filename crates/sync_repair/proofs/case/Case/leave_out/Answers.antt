use Rattle.std.proofs.Common.{◌∙◌, ap, List}
use Rattle.litmus_syntax.specs.declared.call.Step.{Step}
use Rattle.sync_parts.specs.Sites.{places_present}
use Rattle.sync_repair.proofs.Kepts.{places-ascend, places-few}
use Rattle.sync_repair.proofs.case.Case.leave_out.Goals as goal

pub leave_out-requires-clause-ascending : goal.leave_out-requires-clause-ascending
leave_out-requires-clause-ascending c =
    let body = ap (λ (steps : List Step). places_present steps c.self.inside.sites.now c.args.set.now c.self.inside.events.now.events) c.body.ensures in
    places-ascend c.self.inside.litmus.now c.self.inside.sites.now c.args.set.now c.self.inside.events.now c.as_slice.result.now
    c.self.invariant.syncs c.self.invariant.outside c.self.invariant.resolved (c.as_slice.ensures.value ∙ c.in_ok-places.ensures ∙ body)

pub leave_out-requires-clause-within : goal.leave_out-requires-clause-within
leave_out-requires-clause-within c =
    let body = ap (λ (steps : List Step). places_present steps c.self.inside.sites.now c.args.set.now c.self.inside.events.now.events) c.body.ensures in
    places-few c.self.inside.litmus.now c.self.inside.sites.now c.args.set.now c.self.inside.events.now c.as_slice.result.now
    c.self.invariant.syncs c.self.invariant.outside c.self.invariant.resolved (c.as_slice.ensures.value ∙ c.in_ok-places.ensures ∙ body) c.keeps_rules-2.ensures.few_events
