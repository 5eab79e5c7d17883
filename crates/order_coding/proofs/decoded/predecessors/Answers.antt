use Rattle.std.proofs.Common.{◌∙◌, sym, arith}
use Rattle.order_coding.specs.Decoded.{is_before}
use Rattle.order_coding.proofs.Counts.{count-yes, count-no}
use Rattle.order_coding.proofs.decoded.predecessors.Goals as goal
use Rattle.order_coding.proofs.decoded.predecessors.Goals.{then-is_before, else-is_before}

pub loop-a-preserved : goal.loop-a-preserved
loop-a-preserved c = record {
  counted = elim c.if-is_before.branch [
    | then-is_before w ↦
        w.count-is
        ∙ count-yes (λ a. is_before c.args.n c.args.values.now a c.args.e) c.loop-a.a c.loop-a.count (omega arith)
        c.loop-a.invariant.counted (sym c.is_before.ensures ∙ w.if-is_before.true)
    | else-is_before w ↦
        w.count-is
        ∙ count-no (λ a. is_before c.args.n c.args.values.now a c.args.e) c.loop-a.a c.loop-a.count (omega arith)
        c.loop-a.invariant.counted (sym c.is_before.ensures ∙ w.if-is_before.false)
  ];
  within = elim c.if-is_before.branch [ then-is_before w ↦ omega arith | else-is_before w ↦ omega arith ];
}
