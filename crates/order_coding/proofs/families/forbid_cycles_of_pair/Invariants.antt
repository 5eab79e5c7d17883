use Rattle.std.proofs.Common.{◌≡◌, ◌+◌, ◌-◌}
use Rattle.std.specs.List.{flat_map, range_with_len}
use Rattle.order_coding.specs.Families.{no_cycle}
use Rattle.order_coding.specs.Growth.{joined}
use Rattle.order_coding.proofs.families.forbid_cycles_of_pair.Given as goal

abbrev pub invariant-loop-c : goal.invariant-loop-c
invariant-loop-c l =
    l.store ≡ joined l.fn.store (flat_map (λ z. no_cycle l.n l.a l.b z) (range_with_len (l.b + 1) (l.c - (l.b + 1))))
