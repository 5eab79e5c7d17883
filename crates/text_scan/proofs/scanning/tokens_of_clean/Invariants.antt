use Rattle.std.proofs.Common.{◌-◌, length}
use Rattle.text_scan.proofs.Following.{IsReadTo}
use Rattle.text_scan.proofs.scanning.tokens_of_clean.Given as goal

abbrev pub invariant-loop-tokens : goal.invariant-loop-tokens
invariant-loop-tokens l = IsReadTo l.line l.tokens.items l.place

abbrev pub decreases-loop-tokens : goal.decreases-loop-tokens
decreases-loop-tokens l = length l.line - l.place
