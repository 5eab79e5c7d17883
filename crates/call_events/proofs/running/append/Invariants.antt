use Rattle.std.proofs.Common.{◌≡◌, ◌++◌}
use Rattle.call_events.proofs.running.append.Given as goal

abbrev pub invariant-loop-event : goal.invariant-loop-event
invariant-loop-event l = l.events ≡ l.initial.events ++ l.yielded
