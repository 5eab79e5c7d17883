use Rattle.std.proofs.Common.{◌≡◌, take}
use Rattle.call_events.proofs.resolving.copy_contents.Given as goal

abbrev pub invariant-loop-content : goal.invariant-loop-content
invariant-loop-content l = l.all ≡ take l.content-index l.contents
