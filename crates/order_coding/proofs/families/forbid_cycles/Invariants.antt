use Rattle.std.proofs.Common.{◌≡◌, ◌+◌, ◌-◌}
use Rattle.std.specs.List.{flat_map, range_with_len}
use Rattle.order_coding.specs.Families.{no_cycle}
use Rattle.order_coding.specs.Growth.{joined}
use Rattle.order_coding.proofs.families.forbid_cycles.Given as goal

abbrev pub invariant-loop-a : goal.invariant-loop-a
invariant-loop-a l =
    l.store ≡ joined l.fn.store (flat_map (λ x. flat_map (λ y. flat_map (λ z. no_cycle l.n x y z) (range_with_len (y + 1) (l.n - y))) (range_with_len (x + 1) (l.n - x))) (range_with_len 1 (l.a - 1)))
