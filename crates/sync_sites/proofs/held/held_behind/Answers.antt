use Rattle.std.proofs.Common.{ℕ, ◌<◌, List, Option, length, ◌∙◌, ap, arith}
use Rattle.std.proofs.lemmas.Bool.Decides.{nat_tests}
use Rattle.sync_sites.proofs.Lists.{length-held_of}
use Rattle.sync_sites.proofs.Steps.{event_taken, event_left}
use Rattle.sync_sites.proofs.held.held_behind.Goals as goal
use Rattle.sync_sites.proofs.held.held_behind.Goals.{then-event-number, else-event-number}

pub loop-event-preserved : goal.loop-event-preserved
loop-event-preserved c =
    let there : c.loop-event.event-index < length c.args.events.now = omega arith in
    elim c.if-event-number.branch [
      | then-event-number w ↦ record {
        held =
            w.held-is ∙ w.take_in.ensures
            ∙ event_taken c.args.number c.args.start.now c.loop-event.held c.args.events.now c.loop-event.event-index c.event-item.result there c.event-item.is
            (grind (arith, nat_tests, w.if-event-number.true)) c.loop-event.invariant.held;
        long =
            ap (λ (h : List (Option ℕ)). length h) (w.held-is ∙ w.take_in.ensures)
            ∙ length-held_of c.loop-event.held c.event-item.result.slot c.event-item.result.file c.event-item.result.effect ∙ c.loop-event.invariant.long;
      }
      | else-event-number w ↦ record {
        held =
            w.held-is
            ∙ event_left c.args.number c.args.start.now c.loop-event.held c.args.events.now c.loop-event.event-index c.event-item.result there c.event-item.is
            (grind (arith, nat_tests, w.if-event-number.false)) c.loop-event.invariant.held;
        long = ap (λ (h : List (Option ℕ)). length h) w.held-is ∙ c.loop-event.invariant.long;
      }
    ]
