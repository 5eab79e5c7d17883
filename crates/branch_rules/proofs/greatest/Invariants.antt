use Rattle.std.proofs.Common.{◌≤◌, ℕ, length}
use Rattle.branch_rules.specs.Choosing.{IsOpen}
use Rattle.branch_rules.proofs.greatest.Given as goal

abbrev pub invariant-loop-var : goal.invariant-loop-var
invariant-loop-var l = record {
  within : l.var ≤ length l.values;
  passed : (w : ℕ) → IsOpen l.values w → w ≤ l.var;
}

abbrev pub decreases-loop-var : goal.decreases-loop-var
decreases-loop-var l = l.var
