use Rattle.std.proofs.Common.{◌+◌, subst, sym}
use Rattle.fer_events.specs.Pairs.{PairList}
use Rattle.event_relations.proofs.Forwarding.{HasRowsTo, rows_put, rows_passed}
use Rattle.event_relations.proofs.forward.put_forward.Goals as goal
use Rattle.event_relations.proofs.forward.put_forward.Goals.{then-row-a-gt1, else-row-a-gt1}

pub loop-a-preserved : goal.loop-a-preserved
loop-a-preserved c =
    let old = c.args.pairs.now in
    let rows = c.args.rows.now in
    elim c.if-row-a-gt1.branch [
      | then-row-a-gt1 w ↦
          subst (λ (p : PairList). HasRowsTo old p rows (c.loop-a.a + 1)) (sym w.pairs-is)
          (rows_put old c.loop-a.pairs w.put_row.new.pairs rows c.loop-a.a c.loop-a.invariant w.put_row.ensures.n w.put_row.ensures.pairs)
      | else-row-a-gt1 w ↦
          subst (λ (p : PairList). HasRowsTo old p rows (c.loop-a.a + 1)) (sym w.pairs-is)
          (rows_passed old c.loop-a.pairs rows c.loop-a.a c.loop-a.invariant w.if-row-a-gt1.false)
    ]
