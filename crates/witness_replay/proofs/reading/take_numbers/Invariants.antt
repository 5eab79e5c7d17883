use Rattle.std.proofs.Common.{◌≡◌, ℕ, List, ◌++◌, length}
use Rattle.witness_replay.specs.Spans.{HasNumbers}
use Rattle.witness_replay.proofs.reading.take_numbers.Given as goal

abbrev pub invariant-loop-number : goal.invariant-loop-number
invariant-loop-number l = (ns : List ℕ) × HasNumbers l.bytes ns l.rest × (l.numbers.items ≡ l.initial.numbers.items ++ ns)

abbrev pub decreases-loop-number : goal.decreases-loop-number
decreases-loop-number l = length l.rest
