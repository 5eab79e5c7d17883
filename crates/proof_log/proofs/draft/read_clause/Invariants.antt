use Rattle.std.proofs.Common.{length}
use Rattle.proof_log.specs.Reading.{AreLiteralsSoFar}
use Rattle.proof_log.proofs.draft.read_clause.Given as goal

abbrev pub invariant-loop-positive : goal.invariant-loop-positive
invariant-loop-positive l = AreLiteralsSoFar l.vars l.line l.lits.items l.bad l.rest

abbrev pub decreases-loop-positive : goal.decreases-loop-positive
decreases-loop-positive l = length l.rest
