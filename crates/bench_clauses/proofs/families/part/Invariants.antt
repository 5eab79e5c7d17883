use Rattle.std.proofs.Common.{◌≡◌, ◌-◌}
use Rattle.std.specs.List.{flat_map, range_with_len}
use Rattle.order_coding.specs.Growth.{joined}
use Rattle.bench_clauses.specs.Families.{apart}
use Rattle.bench_clauses.proofs.families.part.Given as goal

abbrev pub invariant-loop-first : goal.invariant-loop-first
invariant-loop-first l = l.store ≡ joined l.fn.store (flat_map (λ z. apart l.holes l.hole l.second z) (range_with_len 0 (l.first - 0)))
