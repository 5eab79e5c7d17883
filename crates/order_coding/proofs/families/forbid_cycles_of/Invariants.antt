use Rattle.std.proofs.Common.{◌≡◌, ◌+◌, ◌-◌}
use Rattle.std.specs.List.{flat_map, range_with_len}
use Rattle.order_coding.specs.Families.{no_cycle}
use Rattle.order_coding.specs.Growth.{joined}
use Rattle.order_coding.proofs.families.forbid_cycles_of.Given as goal

abbrev pub invariant-loop-b : goal.invariant-loop-b
invariant-loop-b l =
    l.store ≡ joined l.fn.store (flat_map (λ y. flat_map (λ z. no_cycle l.n l.a y z) (range_with_len (y + 1) (l.n - y))) (range_with_len (l.a + 1) (l.b - (l.a + 1))))
