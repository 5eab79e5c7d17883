use Rattle.std.proofs.Common.{◌++◌, sym, ◌∙◌, ap, arith}
use Rattle.fer_events.specs.Orders.{numbers}
use Rattle.question_series.specs.Assumed.{kept_lits, row}
use Rattle.question_series.proofs.Rows.{lits-more}
use Rattle.question_series.proofs.assuming.kept_lits.Goals as goal

pub loop-a-preserved : goal.loop-a-preserved
loop-a-preserved c =
    let n = c.args.pairs.now.n in
    let kept = c.args.pairs.now.pairs in
    c.in_ok-assume_row.ensures ∙ ap (λ lits. lits ++ kept_lits n (row kept c.loop-a.a (numbers n))) c.loop-a.invariant
    ∙ sym (lits-more n kept c.loop-a.a (omega (arith, c.loop-a.auto)))
