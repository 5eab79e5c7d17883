use Rattle.std.proofs.Common.{◌+◌, ◌-◌, arith}
use Rattle.std.proofs.lemmas.Result.{err_from_is_err_and}
use Rattle.order_coding.specs.Families.{no_cycle}
use Rattle.order_coding.proofs.GeneralGrowth.{grown-more, grown-part}
use Rattle.order_coding.proofs.families.forbid_cycles_of_pair.Goals as goal

pub loop-c-preserved : goal.loop-c-preserved
loop-c-preserved c =
    grown-more (λ z. no_cycle c.args.n c.args.a c.args.b z) (c.args.b + 1) c.loop-c.c c.args.store.now c.loop-c.store c.forbid_cycle.new.store
    (omega arith) c.loop-c.invariant c.in_ok-forbid_cycle.ensures.ok

pub returns-in_err-forbid_cycle-clause-err : goal.returns-in_err-forbid_cycle-clause-err
returns-in_err-forbid_cycle-clause-err c =
    let p = err_from_is_err_and c.from_residual.result c.from_residual.ensures.1 in
    rw p.1
    (grown-part (λ z. no_cycle c.args.n c.args.a c.args.b z) (c.args.b + 1) (c.args.n - c.args.b) c.loop-c.c c.args.store.now c.loop-c.store c.forbid_cycle.new.store
    (omega arith) (omega arith) c.loop-c.invariant c.in_err-forbid_cycle.ensures.err)
