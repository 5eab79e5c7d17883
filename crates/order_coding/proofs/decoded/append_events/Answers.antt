use Rattle.std.proofs.Common.{◌∙◌, not, if◌then◌else◌, arith}
use Rattle.order_coding.specs.Decoded.{is_in}
use Rattle.order_coding.proofs.Counts.{filter-yes, filter-no, wanted, unwanted}
use Rattle.order_coding.proofs.decoded.append_events.Goals as goal
use Rattle.order_coding.proofs.decoded.append_events.Goals.{then-is_in-inside+in_ok-push, else-is_in-inside}

pub loop-e-preserved : goal.loop-e-preserved
loop-e-preserved c = elim c.if-is_in-inside.branch [
  | then-is_in-inside+in_ok-push w ↦
      rw w.order-is
      (w.in_ok-push.ensures.items
      ∙ filter-yes (λ e. if c.args.inside then is_in c.args.values.now e else not (is_in c.args.values.now e)) c.loop-e.e c.args.order.now.items c.loop-e.order.items
      (omega arith) c.loop-e.invariant
      (wanted c.args.inside (is_in c.args.values.now c.loop-e.e) c.is_in.result c.is_in.ensures w.if-is_in-inside.true))
  | else-is_in-inside w ↦
      rw w.order-is
      (filter-no (λ e. if c.args.inside then is_in c.args.values.now e else not (is_in c.args.values.now e)) c.loop-e.e c.args.order.now.items c.loop-e.order.items
      (omega arith) c.loop-e.invariant
      (unwanted c.args.inside (is_in c.args.values.now c.loop-e.e) c.is_in.result c.is_in.ensures w.if-is_in-inside.false))
]
