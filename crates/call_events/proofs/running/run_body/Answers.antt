use Rattle.std.proofs.Common.{◌≡◌, ◌+◌, ◌<◌, ◌≤◌, length, drop, Option, None, sym, ◌∙◌, ap, subst, arith, All, IsTrue}
use Rattle.std.proofs.lemmas.List.Elements.{All-get_or}
use Rattle.litmus_syntax.specs.Forms.{is_formed_call}
use Rattle.litmus_syntax.specs.declared.call.Step.{Step}
use Rattle.std.specs.Option.{option_or}
use Rattle.call_events.specs.declared.files.Progress.{Progress}
use Rattle.call_events.specs.declared.call_kind.CallKind.{CallKind}
use Rattle.call_events.specs.Refusals.{refusal, events_full}
use Rattle.call_events.specs.Running.{events_next, after_call, body_refusal, run_body}
use Rattle.call_events.specs.Runs.{IsRun, IsTraced}
use Rattle.call_events.proofs.Runs.{run_more}
use Rattle.call_events.proofs.Tracing.{traced_more, calls_more}
use Rattle.call_events.proofs.Counting.{changes, few_more}
use Rattle.call_events.proofs.Walking.{body_more}
use Rattle.call_events.proofs.running.run_body.Goals as goal

pub loop-place-preserved : goal.loop-place-preserved
loop-place-preserved c =
    let body = c.args.body.now in
    let sizes = c.args.sizes in
    let p = c.loop-place.progress in
    let i = c.loop-place.place in
    let step = c.index-body-place.result in
    let there : i < length body = omega arith in
    let found : None ≡ refusal p.files step.call = sym c.in_default.is ∙ c.refusal.ensures in
    let fits : None ≡ events_full p.events (events_next sizes (i + 1) p step.call) = sym c.in_default-2.is ∙ c.in_ok-kind.ensures.kind in
    let accepted : None ≡ body_refusal sizes (i + 1) p step.call =
    fits ∙ ap (λ (o : Option CallKind). option_or o (events_full p.events (events_next sizes (i + 1) p step.call))) found in
    let after : c.run_call.new.progress ≡ after_call sizes (i + 1) p step.call = c.in_ok-kind.ensures.after c.in_default-2.is in
    let formed : IsTrue (is_formed_call step.call) = let P : Step → Type 0 = λ s. IsTrue (is_formed_call s.call) in subst P (sym c.index-body-place.is) (All-get_or P body i step there c.requires.body) in
    record {
      rest =
          ap (λ (q : Progress). run_body sizes (i + 1 + 1) q (drop (i + 1) body)) after
          ∙ sym (body_more sizes (i + 1) p body i step there c.index-body-place.is accepted)
          ∙ c.loop-place.invariant.rest;
      run = subst IsRun (sym after) (run_more sizes (i + 1) p step.call c.loop-place.invariant.run (sym accepted));
      traced = subst (IsTraced c.args.files) (sym after)
          (traced_more sizes (i + 1) c.args.files p step.call c.loop-place.invariant.run c.loop-place.invariant.traced c.loop-place.invariant.calls formed (sym accepted));
      calls = let P : Progress → Type 0 = λ q. All (λ e. e.call < i + 1 + 1) q.events in
          subst P (sym after) (calls_more sizes (i + 1) p step.call c.loop-place.invariant.calls);
      few = let P : Progress → Type 0 = λ q. (i + 1) + changes (drop (i + 1) body) ≤ changes body + length q.events in
          subst P (sym after) (few_more sizes (i + 1) p body i step there c.index-body-place.is c.loop-place.invariant.few);
    }
