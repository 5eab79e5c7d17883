use Rattle.std.proofs.Common.{length}
use Rattle.text_scan.proofs.Fronts.{IsAlike}
use Rattle.text_scan.proofs.parts.has_bad_byte.Given as goal

abbrev pub invariant-loop-part : goal.invariant-loop-part
invariant-loop-part l = IsAlike l.line l.rest

abbrev pub decreases-loop-part : goal.decreases-loop-part
decreases-loop-part l = length l.rest
