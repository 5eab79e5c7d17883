use Rattle.std.proofs.Common.{◌≡◌, ◌++◌, take}
use Rattle.std.specs.List.{flat_map}
use Rattle.litmus_syntax.specs.LitmusText.{step_line}
use Rattle.litmus_syntax.proofs.printing.push_steps.Given as goal

abbrev pub invariant-loop-step : goal.invariant-loop-step
invariant-loop-step l = l.out.items ≡ l.fn.out.items ++ flat_map step_line (take l.step-index l.steps)
