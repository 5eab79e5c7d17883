use Rattle.std.proofs.Common.{◌≡◌, Some, length}
use Rattle.model_reader.specs.Machine.{state, run, expression_of}
use Rattle.model_reader.proofs.reading.expression.Given as goal

abbrev pub invariant-loop-token : goal.invariant-loop-token
invariant-loop-token l =
    run l.words l.names (Some (state l.standing.0 l.standing.1 l.outer.items)) l.rest ≡ expression_of l.words l.names l.tokens

abbrev pub decreases-loop-token : goal.decreases-loop-token
decreases-loop-token l = length l.rest
