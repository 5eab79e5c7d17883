use Rattle.std.proofs.Common.{arith}
use Rattle.value_coding.proofs.CellSteps.{cell_coded, cell_counted}
use Rattle.value_coding.proofs.cells.with_writers.Goals as goal

pub loop-cell-preserved : goal.loop-cell-preserved
loop-cell-preserved c = record {
  coded =
      cell_coded c.args.events.now.events c.events.result.now c.args.cells.now c.loop-cell.cell-index c.args.first c.loop-cell.next _ c.in_ok-writers.writers c.loop-cell.coded c.push.new.self
      (omega arith) c.events.ensures c.in_ok-writers.ensures.found c.loop-cell.invariant.coded c.loop-cell.invariant.next c.in_ok-push.ensures.ok;
  next =
      cell_counted c.args.events.now.events c.events.result.now c.args.cells.now c.loop-cell.cell-index c.args.first c.loop-cell.next c.in_ok-next.next _ c.in_ok-writers.writers
      (omega arith) c.events.ensures c.in_ok-writers.ensures.found c.loop-cell.invariant.next (omega (arith, c.in_ok-next.ensures, c.len.ensures));
}
