-- What the limits of a test give its calls.
use Rattle.std.proofs.Common.{◌&&◌, IsTrue, All, arith}
use Rattle.std.proofs.lemmas.Bool.{and_parts}
use Rattle.std.proofs.lemmas.List.Elements.{All-weaker}
use Rattle.litmus_syntax.specs.declared.call.Step.{Step}
use Rattle.litmus_syntax.specs.CallKinds.{is_setup_call, is_body_call}
use Rattle.litmus_syntax.specs.Forms.{is_formed_call}
use Rattle.litmus_syntax.specs.Limits.{IsWithinLimits}
use Rattle.litmus_syntax.specs.Test.{Test}
use Rattle.call_events.specs.Resolved.{sizes_of}
use Rattle.call_events.specs.Small.{IsCutting}

pub setup_is_formed : (l : Test) → IsWithinLimits l → All (λ step. IsTrue (is_formed_call step.call)) l.setup
setup_is_formed l within =
    All-weaker (λ (step : Step). IsTrue (is_setup_call step.call && is_formed_call step.call)) (λ (step : Step). IsTrue (is_formed_call step.call))
    (λ step h. (and_parts (is_setup_call step.call) (is_formed_call step.call) h).1) l.setup within.setup

pub body_is_formed : (l : Test) → IsWithinLimits l → All (λ step. IsTrue (is_formed_call step.call)) l.body
body_is_formed l within =
    All-weaker (λ (step : Step). IsTrue (is_body_call step.call && is_formed_call step.call)) (λ (step : Step). IsTrue (is_formed_call step.call))
    (λ step h. (and_parts (is_body_call step.call) (is_formed_call step.call) h).1) l.body within.body

pub sizes_cut : (l : Test) → IsWithinLimits l → IsCutting (sizes_of l)
sizes_cut l within =
    let some = within.some_sector in
    let less = within.sector in
    let most = within.block in
    (omega arith, omega arith, omega arith, omega arith)
