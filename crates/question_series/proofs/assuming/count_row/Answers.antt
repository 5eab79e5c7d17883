use Rattle.std.proofs.Common.{◌≤◌, ◌+◌, sym, ◌∙◌, ap, arith}
use Rattle.question_series.proofs.Rows.{count-yes, count-no}
use Rattle.question_series.proofs.assuming.count_row.Goals as goal
use Rattle.question_series.proofs.assuming.count_row.Goals.{then-has, else-has}

pub loop-b-preserved : goal.loop-b-preserved
loop-b-preserved c =
    let kept = c.args.pairs.now.pairs in
    let some : 1 ≤ c.loop-b.b = omega (arith, c.loop-b.auto) in
    elim c.if-has.branch [
      | then-has w ↦ (
        w.count-is ∙ ap (λ k. k + 1) c.loop-b.invariant.0 ∙ sym (count-yes kept c.args.a c.loop-b.b some (sym c.has.ensures ∙ w.if-has.true)),
        omega (arith, w.count-is, c.loop-b.invariant.1, some),
      )
      | else-has w ↦ (
        w.count-is ∙ c.loop-b.invariant.0 ∙ sym (count-no kept c.args.a c.loop-b.b some (sym c.has.ensures ∙ w.if-has.false)),
        omega (arith, w.count-is, c.loop-b.invariant.1, some),
      )
    ]
