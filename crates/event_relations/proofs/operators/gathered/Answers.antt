use Rattle.std.proofs.Common.{◌-◌, bit_and, sym, subst, arith}
use Rattle.event_relations.proofs.LowestBits.{some_left}
use Rattle.event_relations.proofs.Gathering.{IsGathered, gathered_start, gathered_taken, gathered_skipped, gathered_end}
use Rattle.event_relations.proofs.operators.gathered.Goals as goal
use Rattle.event_relations.proofs.operators.gathered.Goals.{then-c-rows, else-c-rows}

pub loop-rest-init : goal.loop-rest-init
loop-rest-init c = gathered_start c.args.rows.now c.args.first c.args.word c.args.all

pub loop-rest-preserved : goal.loop-rest-preserved
loop-rest-preserved c =
    let rest = c.loop-rest.rest in
    elim c.if-c-rows.branch [
      | then-c-rows w ↦
          subst (IsGathered c.args.rows.now c.args.first c.args.word c.args.all (bit_and rest (rest - 1))) (sym w.all-is)
          (gathered_taken c.args.rows.now c.args.first c.args.word c.args.all rest c.loop-rest.all c.loop-rest.invariant (some_left rest c.loop-rest-test.true) (omega (arith, c.loop-rest.auto.rest-fits)))
      | else-c-rows w ↦
          subst (IsGathered c.args.rows.now c.args.first c.args.word c.args.all (bit_and rest (rest - 1))) (sym w.all-is)
          (gathered_skipped c.args.rows.now c.args.first c.args.word c.args.all rest c.loop-rest.all c.loop-rest.invariant (some_left rest c.loop-rest-test.true) (omega (arith, c.loop-rest.auto.rest-fits))
          (omega (arith, w.if-c-rows.false)))
    ]

pub returns : goal.returns
returns c = gathered_end c.args.rows.now c.args.first c.args.word c.args.all c.loop-rest.rest c.loop-rest.all c.loop-rest.invariant c.loop-rest-test.false
