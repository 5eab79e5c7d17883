use Rattle.std.proofs.Common.{◌≡◌, take}
use Rattle.order_coding.specs.Growth.{joined}
use Rattle.value_coding.specs.LastWriting.{each_coded}
use Rattle.value_coding.proofs.last_clauses.code_last_writers.Given as goal

abbrev pub invariant-loop-cell : goal.invariant-loop-cell
invariant-loop-cell l = record {
  vars : l.store.vars ≡ l.fn.store.vars;
  written : l.store ≡ joined l.fn.store (each_coded l.n (take l.cell-index l.cells));
}
