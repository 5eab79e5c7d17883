use Rattle.std.proofs.Common.{length}
use Rattle.predicate_reader.specs.Predicates.{AreInRange}
use Rattle.predicate_reader.proofs.ranges.are_in_range.Given as goal

abbrev pub invariant-loop-first : goal.invariant-loop-first
invariant-loop-first l = (AreInRange l.rest → AreInRange l.fn.lexemes) × (AreInRange l.fn.lexemes → AreInRange l.rest)

abbrev pub decreases-loop-first : goal.decreases-loop-first
decreases-loop-first l = length l.rest
