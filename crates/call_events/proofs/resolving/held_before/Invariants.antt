use Rattle.std.proofs.Common.{◌≡◌, ◌++◌, None, replicate}
use Rattle.call_events.proofs.resolving.held_before.Given as goal

abbrev pub invariant-loop-place : goal.invariant-loop-place
invariant-loop-place l = l.all ≡ l.held ++ replicate l._place None
