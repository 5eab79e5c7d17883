use Rattle.std.proofs.Common.{◌≡◌, ◌-◌}
use Rattle.std.specs.List.{flat_map, range_with_len}
use Rattle.order_coding.specs.Growth.{joined}
use Rattle.bench_clauses.specs.Families.{apart}
use Rattle.bench_clauses.proofs.families.part_all.Given as goal

abbrev pub invariant-loop-second : goal.invariant-loop-second
invariant-loop-second l =
    l.store ≡ joined l.fn.store (flat_map (λ y. flat_map (λ z. apart l.holes l.hole y z) (range_with_len 0 y)) (range_with_len 0 (l.second - 0)))
