use Rattle.std.proofs.Common.{◌≡◌, take}
use Rattle.litmus_syntax.proofs.copying.copy_path.Given as goal

abbrev pub invariant-loop-component : goal.invariant-loop-component
invariant-loop-component l = l.copy ≡ take l.component-index l.path
