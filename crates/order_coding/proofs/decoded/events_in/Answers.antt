use Rattle.std.proofs.Common.{◌∙◌}
use Rattle.order_coding.specs.Decoded.{predecessors}
use Rattle.order_coding.proofs.Counts.{sorted-by}
use Rattle.order_coding.proofs.DecodedIs.{sorted-number}
use Rattle.order_coding.proofs.decoded.events_in.Goals as goal

pub returns-clause-by_place : goal.returns-clause-by_place
returns-clause-by_place c =
    sorted-by (predecessors c.args.n c.args.values.now) c.args.n c.as_slice.result.now c.sort_by_rank.new.order.items
    (c.as_slice.ensures.value ∙ c.in_ok-ranks.ensures)
    (sorted-number c.args.n c.args.values.now c.new-order.result.items c.append_events.new.order.items c.sort_by_rank.new.order.items
    c.sort_by_rank.ensures.same c.in_ok-append_events.ensures c.new-order.ensures.items)
    c.sort_by_rank.ensures.sorted
