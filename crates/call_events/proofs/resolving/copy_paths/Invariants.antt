use Rattle.std.proofs.Common.{◌≡◌, take}
use Rattle.call_events.proofs.resolving.copy_paths.Given as goal

abbrev pub invariant-loop-number : goal.invariant-loop-number
invariant-loop-number l = l.all ≡ take l.number l.table
