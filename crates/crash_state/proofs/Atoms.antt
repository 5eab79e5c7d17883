-- What an atom on an attribute means.
use Rattle.std.proofs.Common.{◌≡◌, Bool, ℕ, List}
use Rattle.litmus_syntax.specs.declared.pred.Pred as whole
use Rattle.litmus_syntax.specs.declared.pred.Pred.{Pred, fold-roll-Pred}
use Rattle.litmus_syntax.specs.declared.pred.Pred.TheOpen as atom
use Rattle.litmus_syntax.specs.declared.pred.Pred.TheVariants.{AttrIs}
use Rattle.fer_events.specs.Tables.{Trace}
use Rattle.fer_events.specs.States.{State}
use Rattle.fer_events.specs.Truth.{truth, truth_of, on_file, held_file, has_value, text_number}

pub truth-AttrIs : (t : Trace) (s : State) (path : List (List ℕ)) (key : List ℕ) (value : ℕ) → truth t s (AttrIs path key value) ≡ on_file (held_file t s path) (has_value s (text_number t.keys key) value)
unfolding whole.roll-Pred denote.Hole.Carrier.roll
truth-AttrIs t s path key value = fold-roll-Pred Bool (truth_of t s) (atom.AttrIs path key value)
