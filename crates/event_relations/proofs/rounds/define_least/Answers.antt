use Rattle.std.proofs.Common.{◌≡◌, ◌∙◌, sym, length, ap}
use Rattle.event_relations.specs.Rows.{HasNew}
use Rattle.event_relations.proofs.Rising.{last_rows, rounds_more, rounds_stop, room_of_last, united_falls}
use Rattle.event_relations.proofs.rounds.define_least.Goals as goal

pub returns-then-are_within : goal.returns-then-are_within
returns-then-are_within c =
    rounds_stop c.args.events.now c.args.value.now c.args.names.now c.loop-more.names c.len-own.result c.get-rows.result.now c.in_ok-more.more
    c.loop-more.invariant c.requires.within c.len-own.ensures c.get-rows.ensures (rw c.as_slice.ensures at c.in_ok-more.ensures.shows)
    (rw c.as_slice-in-loop-more.ensures at (rw c.as_slice-in-loop-more-2.ensures at c.if-are_within.ensures))

pub united-rows-requires : goal.united-rows-requires
united-rows-requires c =
    let last = last_rows c.args.events.now c.args.value.now c.args.names.now c.loop-more.names c.len-own.result c.get-rows.result.now c.loop-more.invariant c.len-own.ensures c.get-rows.ensures in
    record { same = c.in_ok-more.ensures.length ∙ sym c.loop-more.invariant.long ∙ ap length (sym last) ∙ ap length (sym c.as_slice-in-loop-more-3.ensures) }

pub loop-more-smaller : goal.loop-more-smaller
loop-more-smaller c =
    let last = last_rows c.args.events.now c.args.value.now c.args.names.now c.loop-more.names c.len-own.result c.get-rows.result.now c.loop-more.invariant c.len-own.ensures c.get-rows.ensures in
    let same : length c.united-rows.result ≡ length c.get-rows.result.now =
    c.united-rows.ensures.length ∙ c.in_ok-more.ensures.length ∙ sym c.loop-more.invariant.long ∙ ap length (sym last) in
    let new : HasNew c.in_ok-more.more c.get-rows.result.now = rw c.as_slice-in-loop-more.ensures at (rw c.as_slice-in-loop-more-2.ensures at c.if-are_within.ensures) in
    rw c.set.ensures (
    room_of_last c.loop-more.names c.len-own.result c.get-rows.result.now c.united-rows.result c.get-rows.ensures
    (united_falls c.in_ok-more.more c.get-rows.result.now c.united-rows.result same (rw c.as_slice-in-loop-more-3.ensures at c.united-rows.ensures.words) new)
    )

pub loop-more-preserved : goal.loop-more-preserved
loop-more-preserved c =
    rw c.set.ensures (
    rounds_more c.args.events.now c.args.value.now c.args.names.now c.loop-more.names c.len-own.result c.get-rows.result.now c.in_ok-more.more c.united-rows.result
    c.loop-more.invariant c.len-own.ensures c.get-rows.ensures (rw c.as_slice.ensures at c.in_ok-more.ensures.shows)
    (c.united-rows.ensures.length ∙ c.in_ok-more.ensures.length) (rw c.as_slice-in-loop-more-3.ensures at c.united-rows.ensures.bits)
    )
