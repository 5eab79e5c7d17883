use Rattle.std.proofs.Common.{◌+◌, ◌∙◌, ◌++◌, ◌∷◌, [], List, take, sym, ap}
use Rattle.litmus_syntax.specs.declared.call.Call.{Call}
use Rattle.litmus_syntax.specs.declared.call.Step.{Step}
use Rattle.model_library.specs.Generated.{generated_calls}
use Rattle.model_library.proofs.Growing.{calls_more}
use Rattle.model_library.proofs.generating.make_body.Goals as goal

pub loop-place-preserved : goal.loop-place-preserved
loop-place-preserved c =
    let line = 8 + (c.loop-place.place + 1) in
    c.in_ok-push.ensures.ok
    ∙ ap (λ (steps : List Step). steps ++ record { line = line; call = c.in_ok-call.call } ∷ []) c.loop-place.invariant
    ∙ ap (λ (call : Call). generated_calls 1 (take c.loop-place.place c.args.words.now) ++ record { line = line; call = call } ∷ []) c.in_ok-call.ensures
    ∙ sym (calls_more c.loop-place.place c.args.words.now 0 c.loop-place-test.true)
