use Rattle.std.proofs.Common.{◌≡◌, ◌++◌, take}
use Rattle.report.specs.EventTable.{event_lines}
use Rattle.report.proofs.event_table.push_events.Given as goal

abbrev pub invariant-loop-place : goal.invariant-loop-place
invariant-loop-place l = l.out.items ≡ l.initial.out.items ++ event_lines l.events 1 (take l.place l.events.events)
