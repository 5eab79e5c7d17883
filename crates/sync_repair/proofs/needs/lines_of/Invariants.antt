use Rattle.sync_repair.specs.Marks.{AreLines}
use Rattle.sync_repair.proofs.needs.lines_of.Given as goal

abbrev pub invariant-loop-place : goal.invariant-loop-place
invariant-loop-place l = AreLines l.case l.kept l.place l.lines
