use Rattle.std.proofs.Common.{List, length, ap, arith}
use Rattle.litmus_syntax.specs.declared.call.Step.{Step}
use Rattle.sync_sites.proofs.TestRuns.{body_long}
use Rattle.sync_sites.proofs.listing.sites.Goals as goal

pub list_sites-requires-clause-few : goal.list_sites-requires-clause-few
list_sites-requires-clause-few c =
    let long = body_long c.args.litmus.now c.args.events.now c.keeps_limits.ensures c.keeps_rules.ensures.few_events c.requires.resolved in
    omega (arith, long, ap (λ (b : List Step). length b) c.body.ensures)
