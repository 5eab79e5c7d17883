-- A run of calls that have one event each: the events are theirs, in the calls' order.
use Rattle.std.proofs.Common.{◌≡◌, ℕ, zero, suc, ◌+◌, ◌≤◌, false, not, nat_lt, List, [], ◌∷◌, ◌++◌, length, count_by, Some, None, Ok, slice_get, refl, sym, ◌∙◌, ap, subst, append_assoc}
use Rattle.std.proofs.lemmas.List.{append-nil}
use Rattle.std.proofs.lemmas.Option.{same_Some}
use Rattle.litmus_syntax.specs.declared.call.Step.{Step}
use Rattle.fer_events.specs.declared.event.Event.{Event}
use Rattle.call_events.specs.declared.files.Files.{Files}
use Rattle.call_events.specs.declared.files.Progress.{Progress}
use Rattle.call_events.specs.declared.making.Sizes.{Sizes}
use Rattle.call_events.specs.Refusals.{is_sync, refusal, too_many}
use Rattle.call_events.specs.Running.{after_call, body_refusal, run_body}
use Rattle.call_events.proofs.Keeping.{or_second, first_none, second_none, test_fails, within}
use Rattle.sync_sites.proofs.TestRuns.{accepted, same_ok}
use Rattle.generated_repairs.proofs.Effects.{AllKeepNames}
use Rattle.generated_repairs.proofs.Growing.{Extends, alike, extends_on}
use Rattle.generated_repairs.proofs.Calls.{IsDone, done_on, IsSingle}

-- each of the calls has one event
abbrev pub AreSingle : List Step → Type 0
AreSingle steps = (j : ℕ) (step : Step) → slice_get steps j ≡ Some step → IsSingle step.call

-- the events are those of the calls, one by one
abbrev pub AreDone : Files → List Step → List Event → Type 0
AreDone t [] [] = Unit {0}
AreDone t (step ∷ steps) (e ∷ events) = IsDone t step.call e × AreDone t steps events
AreDone t steps events = ⊥

-- what a run of calls adds
pub record IsWalk (p q : Progress) (steps : List Step) : Type 0 where
  pub extends : Extends p.files q.files
  pub more : List Event
  pub events : q.events ≡ p.events ++ more
  pub done : AreDone q.files steps more

-- a run that isn't refused adds the events of its calls
pub walk : (sizes : Sizes) (number : ℕ) (p q : Progress) (steps : List Step) → AreSingle steps → run_body sizes number p steps ≡ Ok q → IsWalk p q steps
walk sizes number p q [] single h =
    let same : p ≡ q = same_ok p q h in
    subst (λ (r : Progress). IsWalk p r []) same (record { extends = alike p.files p.files refl refl refl; more = []; events = sym (append-nil p.events); done = tt })
walk sizes number p q (step ∷ steps) single h =
    let next : Progress = after_call sizes number p step.call in
    let both = accepted (body_refusal sizes number p step.call) step.line (run_body sizes (number + 1) next steps) q h in
    let here : refusal p.files step.call ≡ None = first_none _ _ both.0 in
    let call = single zero step refl in
    let one = call.one sizes number p here in
    let rest = walk sizes (number + 1) next q steps (λ j s at. single (suc j) s at) both.1 in
    record {
      extends = extends_on p.files next.files q.files (call.grows p.files) rest.extends;
      more = one.0 ∷ rest.more;
      events = rest.events ∙ ap (λ (l : List Event). (p.events ++ l) ++ rest.more) one.1 ∙ append_assoc p.events (one.0 ∷ []) rest.more;
      done = (done_on next.files q.files step.call one.0 rest.extends one.2, rest.done);
    }

-- a run that isn't refused has at most 128 events
pub few_events : (sizes : Sizes) (number : ℕ) (p q : Progress) (steps : List Step) → length p.events ≤ 128 → run_body sizes number p steps ≡ Ok q → length q.events ≤ 128
few_events sizes number p q [] few h = let same : p ≡ q = same_ok p q h in subst (λ (r : Progress). length r.events ≤ 128) same few
few_events sizes number p q (step ∷ steps) few h =
    let next : Progress = after_call sizes number p step.call in
    let both = accepted (body_refusal sizes number p step.call) step.line (run_body sizes (number + 1) next steps) q h in
    let room : too_many next.events ≡ false = test_fails _ _ (second_none _ _ both.0) in
    few_events sizes (number + 1) next q steps (within 128 (length next.events) (or_second (nat_lt 64 (count_by (λ e. not (is_sync e.kind)) next.events)) (nat_lt 128 (length next.events)) room)) both.1

-- events of calls are so by the numbers of files that have grown
pub done_all : (s t : Files) (steps : List Step) (events : List Event) → Extends s t → AreDone s steps events → AreDone t steps events
done_all s t [] [] more done = tt
done_all s t (step ∷ steps) (e ∷ events) more (first, rest) = (done_on s t step.call e more first, done_all s t steps events more rest)
done_all s t [] (e ∷ events) more done = absurd done
done_all s t (step ∷ steps) [] more done = absurd done

-- as many events as calls
pub length-done : (t : Files) (steps : List Step) (events : List Event) → AreDone t steps events → length events ≡ length steps
length-done t [] [] done = refl
length-done t (step ∷ steps) (e ∷ events) (first, rest) = ap suc (length-done t steps events rest)
length-done t [] (e ∷ events) done = absurd done
length-done t (step ∷ steps) [] done = absurd done

-- the call of an event
pub call_of_event : (t : Files) (steps : List Step) (events : List Event) (i : ℕ) (e : Event) → AreDone t steps events → slice_get events i ≡ Some e → (step : Step) × (slice_get steps i ≡ Some step) × IsDone t step.call e
call_of_event t [] [] i e done h = absurd (let bad : None ≡ Some e = h in cc)
call_of_event t (step ∷ steps) (f ∷ events) zero e (first, rest) h = (step, refl, subst (λ (x : Event). IsDone t step.call x) (same_Some f e h) first)
call_of_event t (step ∷ steps) (f ∷ events) (suc i) e (first, rest) h = call_of_event t steps events i e rest h
call_of_event t [] (f ∷ events) i e done h = absurd done
call_of_event t (step ∷ steps) [] i e done h = absurd done

-- the event of a call
pub event_of_call : (t : Files) (steps : List Step) (events : List Event) (i : ℕ) (step : Step) → AreDone t steps events → slice_get steps i ≡ Some step → (e : Event) × (slice_get events i ≡ Some e) × IsDone t step.call e
event_of_call t [] [] i step done h = absurd (let bad : None ≡ Some step = h in cc)
event_of_call t (first ∷ steps) (e ∷ events) zero step (here, rest) h = (e, refl, subst (λ (x : Step). IsDone t x.call e) (same_Some first step h) here)
event_of_call t (first ∷ steps) (e ∷ events) (suc i) step (here, rest) h = event_of_call t steps events i step rest h
event_of_call t [] (e ∷ events) i step done h = absurd done
event_of_call t (first ∷ steps) [] i step done h = absurd done

-- none of the events clears a name
pub names_kept : (t : Files) (steps : List Step) (events : List Event) → AreDone t steps events → AllKeepNames events
names_kept t steps events done = λ i e at. (call_of_event t steps events i e done at).2.keeps
