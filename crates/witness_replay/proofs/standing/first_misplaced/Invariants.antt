use Rattle.std.proofs.Common.{ℕ, ◌≤◌}
use Rattle.witness_replay.specs.Places.{IsMisplaced}
use Rattle.witness_replay.proofs.standing.first_misplaced.Given as goal

abbrev pub invariant-loop-before : goal.invariant-loop-before
invariant-loop-before l = (a b : ℕ) → a ≤ l.before → IsMisplaced l.pairs.pairs l.places a b → ⊥
