use Rattle.std.proofs.Common.{◌≡◌, ◌-◌}
use Rattle.std.specs.List.{flat_map, range_with_len}
use Rattle.order_coding.specs.Families.{in_before}
use Rattle.order_coding.specs.Growth.{joined}
use Rattle.order_coding.proofs.families.make_cut_prefix.Given as goal

abbrev pub invariant-loop-a : goal.invariant-loop-a
invariant-loop-a l =
    l.store ≡ joined l.fn.store (flat_map (λ x. flat_map (λ y. in_before l.n x y) (range_with_len 1 l.n)) (range_with_len 1 (l.a - 1)))
