use Rattle.std.proofs.Common.{arith}
use Rattle.order_coding.proofs.GeneralGrowth.{grown-more}
use Rattle.bench_clauses.specs.Families.{no_cycle}
use Rattle.bench_clauses.proofs.families.break_cycles_of_two.Goals as goal

pub loop-a-preserved : goal.loop-a-preserved
loop-a-preserved c =
    grown-more (λ z. no_cycle c.args.c c.args.b z) 0 c.loop-a.a c.args.store.now c.loop-a.store c.break_cycle.new.store
    (omega arith) c.loop-a.invariant c.in_ok-break_cycle.ensures
