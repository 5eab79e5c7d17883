use Rattle.std.proofs.Common.{◌≡◌, ◌++◌}
use Rattle.std.specs.List.{flat_map}
use Rattle.report.specs.EventTable.{keep_line}
use Rattle.fer_events.specs.Rows.{row_upto}
use Rattle.report.proofs.event_table.push_row.Given as goal

abbrev pub invariant-loop-place : goal.invariant-loop-place
invariant-loop-place l = l.out.items ≡ l.initial.out.items ++ flat_map keep_line (row_upto l.pairs l.first l.place)
