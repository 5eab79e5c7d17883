use Rattle.std.proofs.Common.{ℕ, ◌≤◌, Contains}
use Rattle.witness_replay.proofs.standing.is_order.Given as goal

abbrev pub invariant-loop-before : goal.invariant-loop-before
invariant-loop-before l = (a : ℕ) → 1 ≤ a → a ≤ l.before → Contains l.order a
