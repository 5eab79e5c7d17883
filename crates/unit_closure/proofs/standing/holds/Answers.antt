use Rattle.std.proofs.Common.{Bool, Option, subst}
use Rattle.trail_core.specs.Course.{IsValue}
use Rattle.trail_core.proofs.GeneralTrails.{free-not-holds}
use Rattle.unit_closure.proofs.Going.{by-value}
use Rattle.unit_closure.proofs.standing.holds.Goals as goal

pub returns-in-None : goal.returns-in-None
returns-in-None c =
    let P : Option Bool → Type 0 = λ o. IsValue c.args.trail.now.entries c.args.lit.var o in
    λ h. free-not-holds c.args.trail.now.entries c.args.lit (subst P c.in-None.is (c.values.ensures.each c.args.lit.var c.requires.0 c.requires.1)) h

pub returns-in-Some : goal.returns-in-Some
returns-in-Some c =
    let P : Option Bool → Type 0 = λ o. IsValue c.args.trail.now.entries c.args.lit.var o in
    by-value c.args.trail.now.entries c.args.lit c.in-Some.b c.values.ensures.course.once (subst P c.in-Some.is (c.values.ensures.each c.args.lit.var c.requires.0 c.requires.1))
