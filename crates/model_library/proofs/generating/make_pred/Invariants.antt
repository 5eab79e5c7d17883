use Rattle.std.proofs.Common.{◌≡◌}
use Rattle.model_library.specs.Generated.{generated_pred}
use Rattle.model_library.proofs.generating.make_pred.Given as goal

abbrev pub invariant-loop-mark : goal.invariant-loop-mark
invariant-loop-mark l = l.pred ≡ generated_pred l.mark
