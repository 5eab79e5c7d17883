use Rattle.std.proofs.Common.{◌∙◌}
use Rattle.sync_repair.proofs.Kepts.{some-syncs, some-outside, some-resolved, some-counted}
use Rattle.sync_repair.proofs.pairs.kept_with.Goals as goal

pub kept_of-requires-clause-syncs : goal.kept_of-requires-clause-syncs
kept_of-requires-clause-syncs c = some-syncs c.args.sites.now c.as_slice.result.now c.args.set.now (c.as_slice.ensures ∙ c.in_ok-present.ensures) c.requires.syncs

pub kept_of-requires-clause-outside : goal.kept_of-requires-clause-outside
kept_of-requires-clause-outside c =
    some-outside c.args.litmus.now c.args.sites.now c.as_slice.result.now c.args.set.now (c.as_slice.ensures ∙ c.in_ok-present.ensures) c.requires.outside

pub kept_of-requires-clause-resolved : goal.kept_of-requires-clause-resolved
kept_of-requires-clause-resolved c =
    some-resolved c.args.litmus.now c.args.sites.now c.as_slice.result.now c.args.set.now c.args.events.now (c.as_slice.ensures ∙ c.in_ok-present.ensures)
    c.requires.syncs c.requires.outside c.requires.resolved

pub lifted_with-requires-clause-counted : goal.lifted_with-requires-clause-counted
lifted_with-requires-clause-counted c =
    let kept = c.in_ok-some.ensures.kept in
    kept.2.counted ∙ some-counted c.args.litmus.now c.args.sites.now c.as_slice.result.now c.args.set.now c.args.events.now kept.0 (c.as_slice.ensures ∙ c.in_ok-present.ensures)
    c.requires.syncs c.requires.outside c.requires.resolved kept.1
