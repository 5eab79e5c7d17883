use Rattle.std.proofs.Common.{arith}
use Rattle.std.specs.List.{flat_map, range_with_len}
use Rattle.std.proofs.lemmas.Result.{err_from_is_err_and}
use Rattle.order_coding.specs.Families.{in_before}
use Rattle.order_coding.proofs.GeneralGrowth.{grown-more, grown-part}
use Rattle.order_coding.proofs.families.make_cut_prefix.Goals as goal

pub loop-a-preserved : goal.loop-a-preserved
loop-a-preserved c =
    grown-more (λ x. flat_map (λ y. in_before c.args.n x y) (range_with_len 1 c.args.n)) 1 c.loop-a.a c.args.store.now c.loop-a.store c.pull_in_before_all.new.store
    (omega arith) c.loop-a.invariant c.in_ok-pull_in_before_all.ensures.ok

pub returns-in_err-pull_in_before_all-clause-err : goal.returns-in_err-pull_in_before_all-clause-err
returns-in_err-pull_in_before_all-clause-err c =
    let p = err_from_is_err_and c.from_residual.result c.from_residual.ensures.1 in
    rw p.1
    (grown-part (λ x. flat_map (λ y. in_before c.args.n x y) (range_with_len 1 c.args.n)) 1 (c.args.n) c.loop-a.a c.args.store.now c.loop-a.store c.pull_in_before_all.new.store
    (omega arith) (omega arith) c.loop-a.invariant c.in_err-pull_in_before_all.ensures.err)
