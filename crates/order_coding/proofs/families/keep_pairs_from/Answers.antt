use Rattle.std.proofs.Common.{arith}
use Rattle.std.proofs.lemmas.Result.{err_from_is_err_and}
use Rattle.order_coding.specs.Writing.{if_kept}
use Rattle.order_coding.proofs.GeneralGrowth.{grown-more, grown-part}
use Rattle.order_coding.proofs.families.keep_pairs_from.Goals as goal

pub loop-b-preserved : goal.loop-b-preserved
loop-b-preserved c =
    grown-more (λ y. if_kept c.args.pairs.now.n c.args.pairs.now.pairs c.args.a y) 1 c.loop-b.b c.args.store.now c.loop-b.store c.keep_pair.new.store
    (omega arith) c.loop-b.invariant c.in_ok-keep_pair.ensures.ok

pub returns-in_err-keep_pair-clause-err : goal.returns-in_err-keep_pair-clause-err
returns-in_err-keep_pair-clause-err c =
    let p = err_from_is_err_and c.from_residual.result c.from_residual.ensures.1 in
    rw p.1
    (grown-part (λ y. if_kept c.args.pairs.now.n c.args.pairs.now.pairs c.args.a y) 1 (c.args.pairs.now.n) c.loop-b.b c.args.store.now c.loop-b.store c.keep_pair.new.store
    (omega arith) (omega arith) c.loop-b.invariant c.in_err-keep_pair.ensures.err)
