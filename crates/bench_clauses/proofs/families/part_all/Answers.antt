use Rattle.std.proofs.Common.{arith}
use Rattle.std.specs.List.{flat_map, range_with_len}
use Rattle.order_coding.proofs.GeneralGrowth.{grown-more}
use Rattle.bench_clauses.specs.Families.{apart}
use Rattle.bench_clauses.proofs.families.part_all.Goals as goal

pub loop-second-preserved : goal.loop-second-preserved
loop-second-preserved c =
    grown-more (λ y. flat_map (λ z. apart c.args.holes c.args.hole y z) (range_with_len 0 y)) 0 c.loop-second.second c.args.store.now c.loop-second.store c.part.new.store
    (omega arith) c.loop-second.invariant c.in_ok-part.ensures
