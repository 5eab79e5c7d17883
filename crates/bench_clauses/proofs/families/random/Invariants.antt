use Rattle.std.proofs.Common.{◌≡◌, ◌-◌, []}
use Rattle.std.specs.List.{flat_map, range_with_len}
use Rattle.order_coding.specs.Growth.{joined}
use Rattle.bench_clauses.specs.Families.{drawn_clause, number_before}
use Rattle.bench_clauses.proofs.families.random.Given as goal

abbrev pub invariant-loop-number : goal.invariant-loop-number
invariant-loop-number l =
    (l.store ≡ joined (record { vars = l.size; clauses = [] }) (flat_map (λ k. drawn_clause l.size (number_before l.size k)) (range_with_len 0 (l._number - 0))))
    × (l.state ≡ number_before l.size l._number)
