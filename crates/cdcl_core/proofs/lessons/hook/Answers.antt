use Rattle.std.proofs.Common.{◌≤◌, length, rules}
use Rattle.cdcl_core.proofs.Adding.{can-hook}
use Rattle.cdcl_core.proofs.lessons.hook.Goals as goal

pub attach-requires-clause-can : goal.attach-requires-clause-can
attach-requires-clause-can c =
    let long : 2 ≤ length c.args.lits.now = search rules in
    can-hook c.args.store.now.clauses c.args.trail.now.entries c.args.lits.now c.args.id c.requires.here c.requires.once long c.requires.unit
