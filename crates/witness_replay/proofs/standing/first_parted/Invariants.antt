use Rattle.std.proofs.Common.{ℕ, ◌≤◌, ◌<◌}
use Rattle.witness_replay.specs.Places.{PartsNext}
use Rattle.witness_replay.proofs.standing.first_parted.Given as goal

abbrev pub invariant-loop-next : goal.invariant-loop-next
invariant-loop-next l = (a : ℕ) → 1 ≤ a → a < l.next → PartsNext l.events l.places l.cut a → ⊥
