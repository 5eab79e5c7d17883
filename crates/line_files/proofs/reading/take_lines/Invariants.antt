use Rattle.std.proofs.Common.{length}
use Rattle.line_files.proofs.GeneralStating.{IsReading}
use Rattle.line_files.proofs.reading.take_lines.Given as goal

abbrev pub invariant-loop-line : goal.invariant-loop-line
invariant-loop-line g l = IsReading g.T.TakeLine.grammar (g.T.TakeLine.keeps l.taker) l.fn.bytes l.rest l.count

abbrev pub decreases-loop-line : goal.decreases-loop-line
decreases-loop-line g l = length l.rest
