use Rattle.std.proofs.Common.{◌≡◌, ◌-◌}
use Rattle.std.specs.List.{flat_map, range_with_len}
use Rattle.order_coding.specs.Growth.{joined}
use Rattle.bench_clauses.specs.Families.{no_cycle}
use Rattle.bench_clauses.proofs.families.break_cycles_of_two.Given as goal

abbrev pub invariant-loop-a : goal.invariant-loop-a
invariant-loop-a l = l.store ≡ joined l.fn.store (flat_map (λ z. no_cycle l.c l.b z) (range_with_len 0 (l.a - 0)))
