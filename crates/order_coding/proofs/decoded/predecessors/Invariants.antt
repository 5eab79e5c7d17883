use Rattle.std.proofs.Common.{◌≡◌, ◌-◌, ◌≤◌, count_by}
use Rattle.std.specs.List.{range_with_len}
use Rattle.order_coding.specs.Decoded.{is_before}
use Rattle.order_coding.proofs.decoded.predecessors.Given as goal

abbrev pub invariant-loop-a : goal.invariant-loop-a
invariant-loop-a l = record {
  counted : l.count ≡ count_by (λ a. is_before l.n l.values a l.e) (range_with_len 1 (l.a - 1));
  within : l.count ≤ l.a - 1;
}
