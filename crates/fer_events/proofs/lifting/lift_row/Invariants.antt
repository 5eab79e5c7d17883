use Rattle.std.proofs.Common.{◌≡◌, ℕ}
use Rattle.std.specs.Prelude.{◌||◌}
use Rattle.fer_events.specs.Pairs.{has_pair}
use Rattle.fer_events.specs.Lifting.{lifted_pairs}
use Rattle.fer_events.specs.Rows.{row_upto}
use Rattle.fer_events.proofs.lifting.lift_row.Given as goal

abbrev pub invariant-loop-place : goal.invariant-loop-place
invariant-loop-place l = record {
  n : l.large.n ≡ l.initial.large.n;
  pairs : (x y : ℕ) → has_pair l.large.pairs x y ≡ has_pair (lifted_pairs l.places (row_upto l.small l.first l.place)) x y || has_pair l.initial.large.pairs x y;
}
