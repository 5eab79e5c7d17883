use Rattle.std.proofs.Common.{◌≡◌, ℕ, ◌+◌, ◌++◌, List, length, take, get_or, ◌∙◌, ap, append_assoc, arith}
use Rattle.fer_events.specs.declared.event.Event.{Event}
use Rattle.report.specs.EventTable.{event_line, event_lines}
use Rattle.report.proofs.Lines.{lines_more}
use Rattle.report.proofs.event_table.push_events.Goals as goal

pub loop-place-preserved : goal.loop-place-preserved
loop-place-preserved c =
    let out = c.args.out.now.items in
    let t = c.args.events.now in
    let k = c.loop-place.place in
    let event = c.event-item.result in
    let events = c.events-event-items.ensures in
    let is : event ≡ get_or t.events k event = c.event-item.is ∙ ap (λ (l : List Event). get_or l k event) events in
    let more : List ℕ = event_line t (k + 1) event in
    c.in_ok-push_event.ensures ∙ ap (λ (l : List ℕ). l ++ more) c.loop-place.invariant
    ∙ append_assoc out (event_lines t 1 (take k t.events)) more
    ∙ ap (λ (l : List ℕ). out ++ l) (lines_more t t.events k event (omega (arith, ap (λ (l : List Event). length l) events)) is)
