use Rattle.std.proofs.Common.{◌≡◌, ℕ, ◌≤◌, length}
use Rattle.order_coding.proofs.GeneralOrders.{place}
use Rattle.witness_replay.specs.Places.{place_in}
use Rattle.witness_replay.proofs.standing.places_of.Given as goal

abbrev pub invariant-loop-before : goal.invariant-loop-before
invariant-loop-before l = record {
  len : length l.places ≡ 128;
  places : (a : ℕ) → 1 ≤ a → a ≤ l.before → place_in l.places a ≡ place a l.order;
}
