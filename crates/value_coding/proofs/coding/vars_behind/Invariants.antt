use Rattle.std.proofs.Common.{◌≡◌, ◌+◌, map, take}
use Rattle.value_coding.specs.declared.cell.CodedCell.{CodedCell}
use Rattle.value_coding.specs.LastClauses.{last_vars}
use Rattle.value_coding.proofs.coding.vars_behind.Given as goal

abbrev pub invariant-loop-cell : goal.invariant-loop-cell
invariant-loop-cell l = l.all ≡ l.vars + last_vars (map (λ (c : CodedCell). c.writers) (take l.cell-index l.cells))
