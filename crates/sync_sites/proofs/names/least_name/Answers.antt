use Rattle.std.proofs.Common.{◌<◌, length, sym, ◌∙◌, subst, Option, None, ℕ, IfSome}
use Rattle.std.specs.Prelude.{slice_index_or}
use Rattle.sync_sites.proofs.Steps.{is_held, name_taken, name_left}
use Rattle.sync_sites.proofs.names.least_name.Goals as goal
use Rattle.sync_sites.proofs.names.least_name.Goals.{then-eq, else-eq}

pub loop-slot-preserved : goal.loop-slot-preserved
loop-slot-preserved c =
    let there : Option ℕ → Type 0 = λ o. IfSome o (λ s. s < length c.args.texts.now) in
    elim c.if-eq.branch [
      | then-eq w ↦ record {
        least =
            w.least-is ∙ w.lesser-least.ensures.lesser
            ∙ name_taken c.args.texts.now c.args.held.now c.args.file c.loop-slot.slot c.loop-slot.least
            (is_held (slice_index_or c.args.held.now c.loop-slot.slot None) c.args.file _ (sym c.eq.ensures ∙ w.if-eq.true)) c.loop-slot.invariant.least;
        there = subst there (sym w.least-is) w.lesser-least.ensures.there;
      }
      | else-eq w ↦ record {
        least =
            w.least-is
            ∙ name_left c.args.texts.now c.args.held.now c.args.file c.loop-slot.slot c.loop-slot.least
            (is_held (slice_index_or c.args.held.now c.loop-slot.slot None) c.args.file _ (sym c.eq.ensures ∙ w.if-eq.false)) c.loop-slot.invariant.least;
        there = subst there (sym w.least-is) c.loop-slot.invariant.there;
      }
    ]
