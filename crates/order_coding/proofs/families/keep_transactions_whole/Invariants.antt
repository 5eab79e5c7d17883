use Rattle.std.proofs.Common.{◌≡◌, ◌+◌, ◌-◌, ◌≤◌, length}
use Rattle.std.specs.List.{flat_map, range_with_len}
use Rattle.order_coding.specs.Families.{in_together}
use Rattle.order_coding.specs.Growth.{joined}
use Rattle.order_coding.proofs.families.keep_transactions_whole.Given as goal

abbrev pub invariant-loop-e : goal.invariant-loop-e
invariant-loop-e l = record {
  within : l.e ≤ 1 + (length l.events - 1);
  written : l.store ≡ joined l.fn.store (flat_map (in_together l.events) (range_with_len 1 (l.e - 1)));
}
