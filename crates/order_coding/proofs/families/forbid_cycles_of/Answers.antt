use Rattle.std.proofs.Common.{◌+◌, ◌-◌, arith}
use Rattle.std.specs.List.{flat_map, range_with_len}
use Rattle.std.proofs.lemmas.Result.{err_from_is_err_and}
use Rattle.order_coding.specs.Families.{no_cycle}
use Rattle.order_coding.proofs.GeneralGrowth.{grown-more, grown-part}
use Rattle.order_coding.proofs.families.forbid_cycles_of.Goals as goal

pub loop-b-preserved : goal.loop-b-preserved
loop-b-preserved c =
    grown-more (λ y. flat_map (λ z. no_cycle c.args.n c.args.a y z) (range_with_len (y + 1) (c.args.n - y))) (c.args.a + 1) c.loop-b.b c.args.store.now c.loop-b.store c.forbid_cycles_of_pair.new.store
    (omega arith) c.loop-b.invariant c.in_ok-forbid_cycles_of_pair.ensures.ok

pub returns-in_err-forbid_cycles_of_pair-clause-err : goal.returns-in_err-forbid_cycles_of_pair-clause-err
returns-in_err-forbid_cycles_of_pair-clause-err c =
    let p = err_from_is_err_and c.from_residual.result c.from_residual.ensures.1 in
    rw p.1
    (grown-part (λ y. flat_map (λ z. no_cycle c.args.n c.args.a y z) (range_with_len (y + 1) (c.args.n - y))) (c.args.a + 1) (c.args.n - c.args.a) c.loop-b.b c.args.store.now c.loop-b.store c.forbid_cycles_of_pair.new.store
    (omega arith) (omega arith) c.loop-b.invariant c.in_err-forbid_cycles_of_pair.ensures.err)
