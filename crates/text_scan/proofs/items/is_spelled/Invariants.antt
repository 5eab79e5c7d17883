use Rattle.std.proofs.Common.{length}
use Rattle.text_scan.proofs.Spelling.{IsLeft}
use Rattle.text_scan.proofs.items.is_spelled.Given as goal

abbrev pub invariant-loop-item : goal.invariant-loop-item
invariant-loop-item l = IsLeft l.written l.rest

abbrev pub decreases-loop-item : goal.decreases-loop-item
decreases-loop-item l = length l.rest
