use Rattle.std.proofs.Common.{arith, ◌+◌, ◌*◌, []}
use Rattle.std.specs.List.{flat_map, range_with_len}
use Rattle.order_coding.specs.Growth.{joined}
use Rattle.order_coding.proofs.GeneralGrowth.{grown-more}
use Rattle.bench_clauses.specs.Families.{some_hole, apart}
use Rattle.bench_clauses.proofs.families.pigeons.Goals as goal

pub loop-pigeon-preserved : goal.loop-pigeon-preserved
loop-pigeon-preserved c =
    grown-more (λ x. some_hole c.args.size x) 0 c.loop-pigeon.pigeon (record { vars = c.args.size * (c.args.size + 1); clauses = [] }) c.loop-pigeon.store c.seat.new.store
    (omega arith) c.loop-pigeon.invariant c.in_ok-seat.ensures

pub loop-hole-preserved : goal.loop-hole-preserved
loop-hole-preserved c =
    grown-more (λ x. flat_map (λ y. flat_map (λ z. apart c.args.size x y z) (range_with_len 0 y)) (range_with_len 0 (c.args.size + 1))) 0 c.loop-hole.hole
    (joined (record { vars = c.args.size * (c.args.size + 1); clauses = [] }) (flat_map (λ x. some_hole c.args.size x) (range_with_len 0 (c.args.size + 1))))
    c.loop-hole.store c.part_all.new.store (omega arith) c.loop-hole.invariant c.in_ok-part_all.ensures
