use Rattle.std.proofs.Common.{arith}
use Rattle.std.proofs.lemmas.Result.{err_from_is_err_and}
use Rattle.order_coding.specs.Families.{in_before}
use Rattle.order_coding.proofs.GeneralGrowth.{grown-more, grown-part}
use Rattle.order_coding.proofs.families.pull_in_before_all.Goals as goal

pub loop-b-preserved : goal.loop-b-preserved
loop-b-preserved c =
    grown-more (λ y. in_before c.args.n c.args.a y) 1 c.loop-b.b c.args.store.now c.loop-b.store c.pull_in_before.new.store
    (omega arith) c.loop-b.invariant c.in_ok-pull_in_before.ensures.ok

pub returns-in_err-pull_in_before-clause-err : goal.returns-in_err-pull_in_before-clause-err
returns-in_err-pull_in_before-clause-err c =
    let p = err_from_is_err_and c.from_residual.result c.from_residual.ensures.1 in
    rw p.1
    (grown-part (λ y. in_before c.args.n c.args.a y) 1 (c.args.n) c.loop-b.b c.args.store.now c.loop-b.store c.pull_in_before.new.store
    (omega arith) (omega arith) c.loop-b.invariant c.in_err-pull_in_before.ensures.err)
