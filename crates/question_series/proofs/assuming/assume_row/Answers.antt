use Rattle.std.proofs.Common.{◌-◌, [], ◌∷◌, ◌++◌, sym, ◌∙◌, ap, arith, append_assoc}
use Rattle.std.specs.List.{range_with_len}
use Rattle.question_series.specs.Assumed.{kept_lits, row}
use Rattle.question_series.proofs.Rows.{lits-row-more}
use Rattle.question_series.proofs.assuming.assume_row.Goals as goal

pub loop-b-preserved : goal.loop-b-preserved
loop-b-preserved c =
    let n = c.args.pairs.now.n in
    let kept = c.args.pairs.now.pairs in
    let before = kept_lits n (row kept c.args.a (range_with_len 1 (c.loop-b.b - 1))) in
    c.in_ok-assume_pair.ensures
    ∙ ap (λ lits. lits ++ kept_lits n (row kept c.args.a (c.loop-b.b ∷ []))) c.loop-b.invariant
    ∙ append_assoc c.args.lits.now before (kept_lits n (row kept c.args.a (c.loop-b.b ∷ [])))
    ∙ ap (λ lits. c.args.lits.now ++ lits) (sym (lits-row-more n kept c.args.a c.loop-b.b (omega (arith, c.loop-b.auto))))
