use Rattle.std.proofs.Common.{◌≡◌, ℕ}
use Rattle.fer_events.specs.Pairs.{has_pair}
use Rattle.fer_events.specs.Lifting.{lifted_pairs}
use Rattle.fer_events.specs.Rows.{rows_upto}
use Rattle.fer_events.proofs.lifting.lift.Given as goal

abbrev pub invariant-loop-place : goal.invariant-loop-place
invariant-loop-place l = record {
  n : l.large.n ≡ l.n;
  pairs : (x y : ℕ) → has_pair l.large.pairs x y ≡ has_pair (lifted_pairs l.places (rows_upto l.small l.place)) x y;
}
