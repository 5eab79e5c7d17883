use Rattle.std.proofs.Common.{length}
use Rattle.text_scan.proofs.Spelling.{IsReadTo}
use Rattle.text_scan.proofs.items.unescape.Given as goal

abbrev pub invariant-loop-item : goal.invariant-loop-item
invariant-loop-item l = IsReadTo l.token l.bytes.items l.rest

abbrev pub decreases-loop-item : goal.decreases-loop-item
decreases-loop-item l = length l.rest
