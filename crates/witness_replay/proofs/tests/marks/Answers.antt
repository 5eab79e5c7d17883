use Rattle.std.proofs.Common.{rules, ◌≡◌, ◌∙◌, ◌-◌, [], ◌∷◌, length, ap, arith, refl}
use Rattle.order_coding.specs.Marks.{mark_event, mark_txn}
use Rattle.order_coding.proofs.Counts.{map-next}
use Rattle.fer_events.specs.Tables.{Trace}
use Rattle.order_coding.proofs.MarkTraces.{marks, marks-trace, length-marks}
use Rattle.witness_replay.proofs.tests.marks.Goals as goal

pub loop-e-preserved : goal.loop-e-preserved
loop-e-preserved c =
    rw (c.in_ok-push.ensures.ok, c.loop-e.invariant, c.mark.ensures, c.txn_of.ensures, map-next (λ e. mark_event e (mark_txn c.args.joined e)) c.loop-e.e (omega arith)) refl

events-are : (c : goal.After-new-6) → c.loop-e.events ≡ marks c.args.joined c.args.n
events-are c = let e : c.loop-e.e - 1 ≡ c.args.n = omega arith in c.loop-e.invariant ∙ ap (marks c.args.joined) e

pub new-requires-7 : goal.new-requires-7
new-requires-7 c =
    let word : c.as_slice.result.now ≡ 109 ∷ [] = search rules in
    rw (
      c.new-start.ensures,
      c.new.ensures,
      c.new-2.ensures,
      c.new-3.ensures,
      c.new-4.ensures,
      c.new-5.ensures,
      c.new-6.ensures,
      c.in_ok-push-2.ensures.ok,
      c.new-words.ensures,
      c.in_ok-from_slice.ensures,
      word,
      events-are c,
    )
    (marks-trace c.args.joined c.args.n c.requires)

pub returns : goal.returns
returns c =
    let e : c.loop-e.e - 1 ≡ c.args.n = omega arith in
    ap (λ (t : Trace). length t.events) c.new-7.ensures ∙ ap length (c.loop-e.invariant ∙ ap (marks c.args.joined) e)
    ∙ length-marks c.args.joined c.args.n
