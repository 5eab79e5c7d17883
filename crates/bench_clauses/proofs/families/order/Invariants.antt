use Rattle.std.proofs.Common.{◌≡◌, ◌-◌, ◌*◌, ◌/◌, []}
use Rattle.std.specs.List.{flat_map, range_with_len}
use Rattle.order_coding.specs.Growth.{joined}
use Rattle.bench_clauses.specs.Families.{no_cycle, is_ahead}
use Rattle.bench_clauses.proofs.families.order.Given as goal

abbrev pub invariant-loop-c : goal.invariant-loop-c
invariant-loop-c l =
    l.store ≡ joined (record { vars = l.size * (l.size - 1) / 2; clauses = [] })
    (flat_map (λ x. flat_map (λ y. flat_map (λ z. no_cycle x y z) (range_with_len 0 y)) (range_with_len 0 x)) (range_with_len 0 (l.c - 0)))

abbrev pub invariant-loop-event : goal.invariant-loop-event
invariant-loop-event l =
    l.store ≡ joined (joined (record { vars = l.size * (l.size - 1) / 2; clauses = [] })
    (flat_map (λ x. flat_map (λ y. flat_map (λ z. no_cycle x y z) (range_with_len 0 y)) (range_with_len 0 x)) (range_with_len 0 l.size)))
    (flat_map (λ x. is_ahead l.size x) (range_with_len 0 (l.event - 0)))
