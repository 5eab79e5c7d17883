use Rattle.std.proofs.Common.{false, sym, ◌∙◌, arith}
use Rattle.clause_store.specs.declared.Lit.{Lit}
use Rattle.trail_core.proofs.Pop.{last-there, pop-kept, pop-up_to, stay-up_to}
use Rattle.trail_core.proofs.take_back.Goals as goal

-- what is read at a place past the end
abbrev nowhere : Lit
nowhere = record { var = 0; positive = false }

pub overflow_sub-place : goal.overflow_sub-place
overflow_sub-place c =
    let k = c.loop-left.invariant.front in
    (last-there c.loop-left.values c.args.origins.now c.args.lits.now c.loop-left.left k.0 k.1 nowhere c.loop-left-test.true).0

pub bounds-origins-place : goal.bounds-origins-place
bounds-origins-place c =
    let k = c.loop-left.invariant.front in
    let there = last-there c.loop-left.values c.args.origins.now c.args.lits.now c.loop-left.left k.0 k.1 nowhere c.loop-left-test.true in
    omega (arith, there.0, there.1, k.1.origins_len)

pub returns-then-origins-place-clause-left : goal.returns-then-origins-place-clause-left
returns-then-origins-place-clause-left c =
    let k = c.loop-left.invariant.front in
    sym (stay-up_to c.loop-left.values c.args.origins.now c.args.lits.now c.loop-left.left k.0 k.1 nowhere c.loop-left-test.true c.args.level c.if-origins-place.true)
    ∙ c.loop-left.invariant.left

pub loop-left-preserved : goal.loop-left-preserved
loop-left-preserved c =
    let k = c.loop-left.invariant.front in record {
      front = pop-kept c.loop-left.values c.args.origins.now c.args.lits.now c.loop-left.left k.0 k.1 nowhere c.loop-left-test.true;
      left = pop-up_to c.loop-left.values c.args.origins.now c.args.lits.now c.loop-left.left k.0 k.1 nowhere c.loop-left-test.true c.args.level c.if-origins-place.false ∙ c.loop-left.invariant.left;
    }
