use Rattle.std.proofs.Common.{◌≡◌, ◌+◌, ◌-◌, ◌*◌, []}
use Rattle.std.specs.List.{flat_map, range_with_len}
use Rattle.order_coding.specs.Growth.{joined}
use Rattle.bench_clauses.specs.Families.{some_hole, apart}
use Rattle.bench_clauses.proofs.families.pigeons.Given as goal

abbrev pub invariant-loop-pigeon : goal.invariant-loop-pigeon
invariant-loop-pigeon l =
    l.store ≡ joined (record { vars = l.size * (l.size + 1); clauses = [] }) (flat_map (λ x. some_hole l.size x) (range_with_len 0 (l.pigeon - 0)))

abbrev pub invariant-loop-hole : goal.invariant-loop-hole
invariant-loop-hole l =
    l.store ≡ joined (joined (record { vars = l.size * (l.size + 1); clauses = [] }) (flat_map (λ x. some_hole l.size x) (range_with_len 0 (l.size + 1))))
    (flat_map (λ x. flat_map (λ y. flat_map (λ z. apart l.size x y z) (range_with_len 0 y)) (range_with_len 0 (l.size + 1))) (range_with_len 0 (l.hole - 0)))
