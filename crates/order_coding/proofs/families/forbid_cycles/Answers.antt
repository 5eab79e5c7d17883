use Rattle.std.proofs.Common.{◌+◌, ◌-◌, arith}
use Rattle.std.specs.List.{flat_map, range_with_len}
use Rattle.std.proofs.lemmas.Result.{err_from_is_err_and}
use Rattle.order_coding.specs.Families.{no_cycle}
use Rattle.order_coding.proofs.GeneralGrowth.{grown-more, grown-part}
use Rattle.order_coding.proofs.families.forbid_cycles.Goals as goal

pub loop-a-preserved : goal.loop-a-preserved
loop-a-preserved c =
    grown-more (λ x. flat_map (λ y. flat_map (λ z. no_cycle c.args.n x y z) (range_with_len (y + 1) (c.args.n - y))) (range_with_len (x + 1) (c.args.n - x))) 1 c.loop-a.a c.args.store.now c.loop-a.store c.forbid_cycles_of.new.store
    (omega arith) c.loop-a.invariant c.in_ok-forbid_cycles_of.ensures.ok

pub returns-in_err-forbid_cycles_of-clause-err : goal.returns-in_err-forbid_cycles_of-clause-err
returns-in_err-forbid_cycles_of-clause-err c =
    let p = err_from_is_err_and c.from_residual.result c.from_residual.ensures.1 in
    rw p.1
    (grown-part (λ x. flat_map (λ y. flat_map (λ z. no_cycle c.args.n x y z) (range_with_len (y + 1) (c.args.n - y))) (range_with_len (x + 1) (c.args.n - x))) 1 (c.args.n) c.loop-a.a c.args.store.now c.loop-a.store c.forbid_cycles_of.new.store
    (omega arith) (omega arith) c.loop-a.invariant c.in_err-forbid_cycles_of.ensures.err)
