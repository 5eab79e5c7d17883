use Rattle.std.proofs.Common.{◌≡◌, ◌-◌}
use Rattle.std.specs.List.{flat_map, range_with_len}
use Rattle.order_coding.specs.Growth.{joined}
use Rattle.bench_clauses.specs.Families.{no_cycle}
use Rattle.bench_clauses.proofs.families.break_cycles_below.Given as goal

abbrev pub invariant-loop-b : goal.invariant-loop-b
invariant-loop-b l =
    l.store ≡ joined l.fn.store (flat_map (λ y. flat_map (λ z. no_cycle l.c y z) (range_with_len 0 y)) (range_with_len 0 (l.b - 0)))
