use Rattle.std.proofs.Common.{◌≡◌, ◌-◌}
use Rattle.std.specs.List.{flat_map, range_with_len}
use Rattle.order_coding.specs.Families.{in_before}
use Rattle.order_coding.specs.Growth.{joined}
use Rattle.order_coding.proofs.families.pull_in_before_all.Given as goal

abbrev pub invariant-loop-b : goal.invariant-loop-b
invariant-loop-b l =
    l.store ≡ joined l.fn.store (flat_map (λ y. in_before l.n l.a y) (range_with_len 1 (l.b - 1)))
