use Rattle.std.proofs.Common.{◌≡◌, ◌++◌, [], replicate}
use Rattle.call_events.proofs.resolving.add_empty.Given as goal

abbrev pub invariant-loop-place : goal.invariant-loop-place
invariant-loop-place l = l.contents ≡ l.initial.contents ++ replicate l._place []
