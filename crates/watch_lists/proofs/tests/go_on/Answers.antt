use Rattle.std.proofs.Common.{◌+◌, sym, subst, arith, None}
use Rattle.trail_core.specs.Course.{Course}
use Rattle.watch_lists.specs.Watching.{AreInStep}
use Rattle.watch_lists.proofs.GeneralWatches.{longer}
use Rattle.watch_lists.proofs.tests.go_on.Goals as goal

pub propagate-requires-clause-in_step : goal.propagate-requires-clause-in_step
propagate-requires-clause-in_step c =
    let t = c.args.trail.now in
    let P : Course → Type 0 = λ u. AreInStep c.args.watches.now.list u in
    subst P (sym c.decide.ensures) (longer c.args.watches.now.list t (t.level + 1) (record { lit = c.args.l; level = t.level + 1; reason = None }) (omega (arith, c.requires.seen)) c.requires.in_step)
