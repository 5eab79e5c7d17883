use Rattle.std.proofs.Common.{Bool, Option, subst}
use Rattle.trail_core.specs.Course.{IsValue}
use Rattle.unit_closure.proofs.Going.{not-free}
use Rattle.unit_closure.proofs.standing.is_open.Goals as goal

pub returns-in-None : goal.returns-in-None
returns-in-None c =
    let P : Option Bool → Type 0 = λ o. IsValue c.args.trail.now.entries c.args.lit.var o in
    subst P c.in-None.is (c.values.ensures.each c.args.lit.var c.requires.0 c.requires.1)

pub returns-in-Some : goal.returns-in-Some
returns-in-Some c =
    let P : Option Bool → Type 0 = λ o. IsValue c.args.trail.now.entries c.args.lit.var o in
    not-free c.args.trail.now.entries c.args.lit.var c.in-Some.field-0 (subst P c.in-Some.is (c.values.ensures.each c.args.lit.var c.requires.0 c.requires.1))
