use Rattle.std.proofs.Common.{arith}
use Rattle.std.specs.List.{flat_map, range_with_len}
use Rattle.order_coding.proofs.GeneralGrowth.{grown-more}
use Rattle.bench_clauses.specs.Families.{no_cycle}
use Rattle.bench_clauses.proofs.families.break_cycles_below.Goals as goal

pub loop-b-preserved : goal.loop-b-preserved
loop-b-preserved c =
    grown-more (λ y. flat_map (λ z. no_cycle c.args.c y z) (range_with_len 0 y)) 0 c.loop-b.b c.args.store.now c.loop-b.store c.break_cycles_of_two.new.store
    (omega arith) c.loop-b.invariant c.in_ok-break_cycles_of_two.ensures
