use Rattle.std.proofs.Common.{◌<◌, ◌≤◌, ◌-◌, ℕ, length}
use Rattle.branch_rules.specs.Choosing.{IsOpen}
use Rattle.branch_rules.proofs.skip_set.Given as goal

abbrev pub invariant-block : goal.invariant-block
invariant-block l = record {
  within : l.start ≤ length l.values;
  passed : (w : ℕ) → IsOpen l.values w → l.start < w;
}

abbrev pub decreases-block : goal.decreases-block
decreases-block l = length l.values - l.start
