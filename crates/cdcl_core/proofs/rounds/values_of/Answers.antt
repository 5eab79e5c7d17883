use Rattle.std.proofs.Common.{◌≡◌, ℕ, ◌≤◌, length, ◌∙◌, arith}
use Rattle.cdcl_core.proofs.Ending.{holds-true}
use Rattle.cdcl_core.proofs.rounds.values_of.Goals as goal

pub returns-clause-each : goal.returns-clause-each
returns-clause-each c =
    holds-true c.args.trail.now.entries c.args.trail.now.vars c.values-value-items.result.now c.loop-value.values c.loop-value.value-index c.values-value-items.ensures.course.once c.values-value-items.ensures.course.named
    c.values-value-items.ensures.len c.values-value-items.ensures.each c.loop-value-test.false c.loop-value.invariant.each

both : (n m vars : ℕ) → m ≤ n → n ≤ m → m ≡ vars → n ≡ vars
both n m vars a b e = omega (arith, a, b, e)

pub returns-clause-count : goal.returns-clause-count
returns-clause-count c =
    c.loop-value.invariant.len ∙ both c.loop-value.value-index (length c.values-value-items.result.now) c.args.trail.now.vars c.loop-value-test.false c.loop-value.invariant.within c.values-value-items.ensures.len
