use Rattle.std.proofs.Common.{slice_index_or, arith}
use Rattle.std.proofs.lemmas.Option.{slice_get-get_or}
use Rattle.witness_replay.proofs.Parting.{none_parted, first_is_least}
use Rattle.witness_replay.proofs.standing.first_parted.Goals as goal

pub returns-then-parts_next : goal.returns-then-parts_next
returns-then-parts_next c =
    let events = c.args.events.now in
    let next = c.loop-next.next in
    first_is_least events c.args.places.now c.args.cut c.requires.rises next (slice_index_or events next c.index-events-next.result)
    (omega arith) (omega arith) (slice_get-get_or events next c.index-events-next.result (omega arith)) c.if-parts_next.ensures c.loop-next.invariant

pub returns : goal.returns
returns c =
    none_parted c.args.events.now c.args.places.now c.args.cut c.requires.rises
    (λ a above below. c.loop-next.invariant a above (omega arith))
