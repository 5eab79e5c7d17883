use Rattle.std.proofs.Common.{◌∙◌, ap, arith}
use Rattle.std.specs.List.{flat_map, range_with_len}
use Rattle.std.proofs.lemmas.Result.{err_from_is_err_and}
use Rattle.order_coding.specs.Growth.{joined}
use Rattle.order_coding.specs.Writing.{if_kept}
use Rattle.order_coding.proofs.GeneralGrowth.{grown-more, grown-part, grown-all, beginning-same}
use Rattle.order_coding.proofs.Kept.{kept-rows}
use Rattle.order_coding.proofs.families.keep_pairs.Goals as goal

pub loop-a-preserved : goal.loop-a-preserved
loop-a-preserved c =
    grown-more (λ x. flat_map (λ y. if_kept c.args.pairs.now.n c.args.pairs.now.pairs x y) (range_with_len 1 c.args.pairs.now.n)) 1 c.loop-a.a c.args.store.now c.loop-a.store c.keep_pairs_from.new.store
    (omega arith) c.loop-a.invariant c.in_ok-keep_pairs_from.ensures.ok

pub returns-in_err-keep_pairs_from-clause-err : goal.returns-in_err-keep_pairs_from-clause-err
returns-in_err-keep_pairs_from-clause-err c =
    let p = err_from_is_err_and c.from_residual.result c.from_residual.ensures.1 in
    rw p.1
    (beginning-same c.keep_pairs_from.new.store _ _ (ap (joined c.args.store.now) (kept-rows c.args.pairs.now c.n-a-end.ensures.listed))
    (grown-part (λ x. flat_map (λ y. if_kept c.args.pairs.now.n c.args.pairs.now.pairs x y) (range_with_len 1 c.args.pairs.now.n)) 1 c.args.pairs.now.n c.loop-a.a c.args.store.now c.loop-a.store c.keep_pairs_from.new.store
    (omega arith) (omega arith) c.loop-a.invariant c.in_err-keep_pairs_from.ensures.err))

pub returns-clause-ok : goal.returns-clause-ok
returns-clause-ok c =
    grown-all (λ x. flat_map (λ y. if_kept c.args.pairs.now.n c.args.pairs.now.pairs x y) (range_with_len 1 c.args.pairs.now.n)) 1 c.args.pairs.now.n c.loop-a.a c.args.store.now c.loop-a.store
    (omega arith) c.loop-a.invariant
    ∙ ap (joined c.args.store.now) (kept-rows c.args.pairs.now c.n-a-end.ensures.listed)
