use Rattle.std.proofs.Common.{◌∙◌, ap, sym}
use Rattle.litmus_syntax.specs.declared.pred.Pred.{Pred}
use Rattle.fer_events.specs.Truth.{truth}
use Rattle.crash_state.proofs.Atoms.{truth-AttrIs}
use Rattle.crash_state.proofs.state.State.+holds.Goals as goal

pub returns-in-AttrIs : goal.returns-in-AttrIs
returns-in-AttrIs t c =
    c.attr_is.ensures
    ∙ sym (truth-AttrIs c.args.events.now c.args.self.now c.in-AttrIs.path c.in-AttrIs.key c.in-AttrIs.value)
    ∙ ap (λ (pred : Pred). truth c.args.events.now c.args.self.now pred) (sym c.in-AttrIs.is)
