use Rattle.std.proofs.Common.{ℕ, ◌≤◌}
use Rattle.witness_replay.specs.Places.{IsMisplaced}
use Rattle.witness_replay.proofs.standing.first_misplaced_behind.Given as goal

abbrev pub invariant-loop-before : goal.invariant-loop-before
invariant-loop-before l = (b : ℕ) → b ≤ l.before → IsMisplaced l.pairs.pairs l.places l.a b → ⊥
