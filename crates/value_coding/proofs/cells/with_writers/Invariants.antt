use Rattle.std.proofs.Common.{◌≡◌, ◌+◌, map, take}
use Rattle.value_coding.specs.Writers.{writers}
use Rattle.value_coding.specs.LastClauses.{last_vars}
use Rattle.value_coding.specs.CodedCells.{coded_cells}
use Rattle.value_coding.proofs.cells.with_writers.Given as goal

abbrev pub invariant-loop-cell : goal.invariant-loop-cell
invariant-loop-cell l = record {
  coded : l.coded ≡ coded_cells l.events.events l.first (take l.cell-index l.cells);
  next : l.next ≡ l.first + last_vars (map (writers l.events.events) (take l.cell-index l.cells));
}
