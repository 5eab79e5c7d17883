use Rattle.std.proofs.Common.{◌<◌, ◌≤◌, ◌-◌, ℕ, length}
use Rattle.branch_rules.specs.Choosing.{IsOpen}
use Rattle.branch_rules.proofs.least.Given as goal

abbrev pub invariant-loop-place : goal.invariant-loop-place
invariant-loop-place l = record {
  within : l.place ≤ length l.values;
  passed : (w : ℕ) → IsOpen l.values w → l.place < w;
}

abbrev pub decreases-loop-place : goal.decreases-loop-place
decreases-loop-place l = length l.values - l.place
