use Rattle.std.proofs.Common.{List, All, IsTrue, sym, subst}
use Rattle.litmus_syntax.specs.Forms.{is_formed_call}
use Rattle.litmus_syntax.specs.declared.call.Step.{Step}
use Rattle.call_events.proofs.Limits.{setup_is_formed}
use Rattle.call_events.proofs.Closing.{answer_events, answer_fault, set_up_first, setup_refuses}
use Rattle.call_events.proofs.resolving.resolve.Goals as goal

pub set_up-requires : goal.set_up-requires
set_up-requires c =
    let P : List Step → Type 0 = λ setup. All (λ step. IsTrue (is_formed_call step.call)) setup in
    subst P (sym c.setup.ensures) (setup_is_formed c.args.litmus.now c.keeps_limits.ensures)

pub returns-in-Err-clause-refused : goal.returns-in-Err-clause-refused
returns-in-Err-clause-refused c = setup_refuses c.args.litmus.now c.args.sites.now c.setup.result.now c.in-Err.fault c.setup.ensures c.in-Err.ensures.answer

pub returns-clause-events : goal.returns-clause-events
returns-clause-events c =
    answer_events c.args.litmus.now c.args.sites.now c.resolve_body.result
    (set_up_first c.args.litmus.now c.args.sites.now c.setup.result.now c.in-Ok.files c.resolve_body.result c.setup.ensures c.in-Ok.ensures.answer c.resolve_body.ensures)

pub returns-clause-refused : goal.returns-clause-refused
returns-clause-refused c =
    answer_fault c.args.litmus.now c.args.sites.now c.resolve_body.result
    (set_up_first c.args.litmus.now c.args.sites.now c.setup.result.now c.in-Ok.files c.resolve_body.result c.setup.ensures c.in-Ok.ensures.answer c.resolve_body.ensures)
