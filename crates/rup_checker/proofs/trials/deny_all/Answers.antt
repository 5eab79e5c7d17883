use Rattle.std.proofs.Common.{arith}
use Rattle.clause_store.specs.declared.Lit.{Lit}
use Rattle.trail_core.specs.Course.{Fails}
use Rattle.unit_closure.proofs.Going.{each-more, each-all}
use Rattle.rup_checker.proofs.GeneralTrials.{trying-begins, follows-not}
use Rattle.rup_checker.proofs.trials.deny_all.Goals as goal

pub loop-lit-init : goal.loop-lit-init
loop-lit-init c = record {
  trying = trying-begins c.args.store.now c.args.watches.now c.args.trail.now c.args.clause.now c.requires.ready;
  fails = λ k m lt. absurd (omega (arith, lt));
}

pub loop-lit-preserved : goal.loop-lit-preserved
loop-lit-preserved c =
    let P : Lit → Type 0 = λ m. Fails c.deny.new.trail.entries m in
    record {
      trying = c.in_default.ensures.on;
      fails = each-more P c.args.clause.now c.loop-lit.lit-index _ c.loop-lit-test.true c.in_default.ensures.fails
          (λ k m lt at. c.deny.ensures.kept m (c.loop-lit.invariant.fails k m lt at));
    }

pub returns-clause-trial : goal.returns-clause-trial
returns-clause-trial c =
    let P : Lit → Type 0 = λ m. Fails c.loop-lit.trail.entries m in
    follows-not c.args.store.now.clauses c.loop-lit.watches.list c.loop-lit.trail c.args.clause.now c.loop-lit.invariant.trying.sound.search c.loop-lit.invariant.trying.seen
    (each-all P c.args.clause.now c.loop-lit.lit-index c.loop-lit-test.false c.loop-lit.invariant.fails)
