use Rattle.std.proofs.Common.{◌≡◌, take}
use Rattle.model_library.specs.Generated.{generated_calls}
use Rattle.model_library.proofs.generating.make_body.Given as goal

abbrev pub invariant-loop-place : goal.invariant-loop-place
invariant-loop-place l = l.body ≡ generated_calls 1 (take l.place l.words)
