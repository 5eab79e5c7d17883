use Rattle.std.proofs.Common.{◌≡◌, ◌+◌, ◌<◌, length, drop, None, sym, ◌∙◌, ap, subst, arith, IsTrue}
use Rattle.call_events.specs.declared.files.Files.{Files}
use Rattle.call_events.specs.Refusals.{refusal}
use Rattle.call_events.specs.Running.{after_setup_call, run_setup}
use Rattle.call_events.specs.Small.{IsSmall}
use Rattle.call_events.proofs.Keeping.{setup_small, setup_words}
use Rattle.call_events.specs.Runs.{IsConsistent, AreFormed}
use Rattle.call_events.proofs.Formed.{setup_formed}
use Rattle.std.proofs.lemmas.List.Elements.{All-get_or}
use Rattle.litmus_syntax.specs.Forms.{is_formed_call}
use Rattle.litmus_syntax.specs.declared.call.Step.{Step}
use Rattle.call_events.proofs.Whole.{setup_whole}
use Rattle.call_events.proofs.Walking.{setup_more}
use Rattle.call_events.proofs.running.set_up_calls.Goals as goal

pub loop-step-preserved : goal.loop-step-preserved
loop-step-preserved c =
    let setup = c.args.setup.now in
    let files = c.loop-step.files in
    let i = c.loop-step.step-index in
    let step = c.step-item.result in
    let there : i < length setup = omega arith in
    let accepted : None ≡ refusal files step.call = sym c.in_default.is ∙ c.refusal.ensures in
    let after : c.set_up_call.new.files ≡ after_setup_call files step.call = c.in_ok-set_up_call.ensures.after in
    let call_is : IsTrue (is_formed_call step.call) = let P : Step → Type 0 = λ s. IsTrue (is_formed_call s.call) in subst P (sym c.step-item.is) (All-get_or P setup i step there c.requires.setup) in
    record {
      rest = ap (λ (f : Files). run_setup f (drop (i + 1) setup)) after ∙ sym (setup_more files setup i step there c.step-item.is accepted) ∙ c.loop-step.invariant.rest;
      small = subst IsSmall (sym after) (setup_small files step.call c.loop-step.invariant.small (sym accepted) c.loop-step.invariant.unmarked);
      whole = subst IsConsistent (sym after) (setup_whole files step.call c.loop-step.invariant.small c.loop-step.invariant.unmarked c.loop-step.invariant.whole (sym accepted)).0;
      formed = subst AreFormed (sym after) (setup_formed files step.call call_is c.loop-step.invariant.formed);
      unmarked = ap (λ (f : Files). f.words) after ∙ setup_words files step.call ∙ c.loop-step.invariant.unmarked;
    }
