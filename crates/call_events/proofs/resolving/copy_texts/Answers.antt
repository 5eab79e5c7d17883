use Rattle.std.proofs.Common.{rules, ◌<◌, [], ◌∷◌, ◌++◌, length, ◌∙◌, ap}
use Rattle.call_events.proofs.Taken.{next_taken}
use Rattle.call_events.proofs.resolving.copy_texts.Goals as goal

pub loop-number-preserved : goal.loop-number-preserved
loop-number-preserved c =
    let below : c.loop-number.number < length c.args.table.now = search rules in
    c.in_ok-push.ensures.ok
    ∙ ap (λ x. c.loop-number.all ++ x ∷ []) c.in_ok-copy_text.ensures
    ∙ next_taken c.args.table.now c.loop-number.number c.entry.result.now c.loop-number.all below c.entry.ensures c.loop-number.invariant
