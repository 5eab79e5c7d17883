use Rattle.std.proofs.Common.{ℕ, List, ◌+◌, ◌-◌, ◌<◌, ◌++◌, length, take, arith, ◌∙◌, ap}
use Rattle.std.proofs.lemmas.Grind.{common_steps}
use Rattle.fer_events.specs.declared.event.Event.{Event}
use Rattle.call_events.specs.declared.making.Stamp.{Stamp}
use Rattle.call_events.specs.CallEvents.{text_events}
use Rattle.call_events.proofs.Enough.{one_more_event, next_txn_most}
use Rattle.call_events.proofs.making.text_events.Goals as goal

pub loop-place-preserved : goal.loop-place-preserved
loop-place-preserved c =
    let text : List ℕ = c.loop-place.rest.now in
    let piece : List ℕ = c.split_at.result.0.now in
    let rest : List ℕ = c.split_at.result.1.now in
    let at : ℕ = c.loop-place.at in
    let i : ℕ = c.loop-place._place in
    let some : 0 < length text = grind (arith, common_steps) in
    let whole : List Event = take 65 (text_events c.args.sizes c.args.stamp c.args.file c.args.size c.args.at c.args.text.now) in
    let txn = ap (λ (s : Stamp). s.txn) c.next-stamp.ensures in
    record {
      made =
          ap (λ (es : List Event). es ++ take (65 - (i + 1)) (text_events c.args.sizes c.next-stamp.result c.args.file c.args.size (at + length piece) rest)) c.in_ok-push.ensures.ok
          ∙ one_more_event c.args.sizes c.loop-place.stamp c.next-stamp.result c.args.file c.args.size at (at + length piece) c.first_len.result text piece rest c.loop-place.events whole c.in_ok-event.event i
          (omega arith) c.requires.cuts some c.first_len.ensures c.split_at.ensures.front c.split_at.ensures.back (ap (λ (n : ℕ). at + n) c.split_at.ensures.front_len)
          c.next-stamp.ensures c.in_ok-event.ensures c.loop-place.invariant.made;
      room = omega (arith, c.split_at.ensures.front_len, c.split_at.ensures.back_len, c.loop-place.invariant.room);
      txns = omega (arith, txn, next_txn_most c.loop-place.stamp, c.loop-place.invariant.txns);
    }
