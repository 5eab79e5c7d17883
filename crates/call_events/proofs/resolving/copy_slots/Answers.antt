use Rattle.std.proofs.Common.{rules, ℕ, List, ◌<◌, [], ◌∷◌, ◌++◌, length, ◌∙◌, ap}
use Rattle.fer_events.specs.declared.tables.SlotName.{SlotName}
use Rattle.call_events.proofs.Taken.{next_taken}
use Rattle.call_events.proofs.resolving.copy_slots.Goals as goal

pub loop-number-preserved : goal.loop-number-preserved
loop-number-preserved c =
    let below : c.loop-number.number < length c.args.table.now = search rules in
    let slot : SlotName = record { dir = c.slot-dir.result.0; name = c.slot-dir.result.1.now } in
    c.in_ok-push.ensures.ok
    ∙ ap (λ (name : List ℕ). c.loop-number.all ++ record { dir = c.slot-dir.result.0; name = name } ∷ []) c.in_ok-name.ensures
    ∙ next_taken c.args.table.now c.loop-number.number slot c.loop-number.all below c.slot-dir.ensures c.loop-number.invariant
