use Rattle.std.proofs.Common.{◌≡◌, take}
use Rattle.litmus_syntax.proofs.site.copy_steps.Given as goal

abbrev pub invariant-loop-step : goal.invariant-loop-step
invariant-loop-step l = l.copies ≡ take l.step-index l.steps
