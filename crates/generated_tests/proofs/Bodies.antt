-- No call of a generated body is refused, and each is one event.
use Rattle.std.proofs.Common.{◌≡◌, ℕ, ◌+◌, ◌≤◌, Bool, false, nat_lt, List, [], ◌∷◌, ◌++◌, length, Option, None, Ok, refl, ◌∙◌, ap, subst, arith, length-append}
use Rattle.std.specs.Prelude.{not, count_by}
use Rattle.std.specs.Option.{option_or}
use Rattle.std.proofs.lemmas.Bool.Decides.{nat_tests}
use Rattle.std.proofs.lemmas.List.Sums.{count_by-le-length}
use Rattle.litmus_syntax.specs.declared.call.Call.{Call}
use Rattle.fer_events.specs.declared.event.Event.{Event}
use Rattle.call_events.specs.declared.files.Progress.{Progress}
use Rattle.call_events.specs.declared.making.Sizes.{Sizes}
use Rattle.call_events.specs.declared.call_kind.CallKind.{CallKind}
use Rattle.call_events.specs.declared.call_kind.CallKind.TheVariants.{TooManyEvents}
use Rattle.call_events.specs.Refusals.{is_sync, too_many, kind_if, events_full}
use Rattle.call_events.specs.Running.{unless_refused, stamp_of, events_next, after_call, body_refusal, run_body}
use Rattle.model_library.specs.Generated.{generated_call, generated_calls}
use Rattle.generated_tests.proofs.Shapes.{IsBefore}
use Rattle.generated_tests.proofs.Going.{GoesOn, call_goes}

-- what the calls before call i left: its files, and one event each
pub record IsRunBefore (i : ℕ) (p : Progress) : Type 0 where
  pub files : IsBefore i p.files
  pub events : length p.events + 1 ≡ i

-- so few events are never too many
few_events : (events : List Event) → length events ≤ 64 → too_many events ≡ false
few_events events few =
    let counted = count_by-le-length (λ e. not (is_sync e.kind)) events in
    let within : nat_lt 64 (count_by (λ e. not (is_sync e.kind)) events) ≡ false = grind (arith, nat_tests, counted, few) in
    let all : nat_lt 128 (length events) ≡ false = grind (arith, nat_tests, few) in
    rw within all

-- call i among what the calls before it left
record IsAccepted (i : ℕ) (sizes : Sizes) (p : Progress) (c : Call) : Type 0 where
  accepted : body_refusal sizes i p c ≡ None
  behind : IsRunBefore (i + 1) (after_call sizes i p c)

accept : (i : ℕ) (sizes : Sizes) (p : Progress) (c : Call) → i ≤ 32 → length p.events + 1 ≡ i → GoesOn i p.files c → IsAccepted i sizes p c
accept i sizes p c few events goes =
    let more : List Event = events_next sizes i p c in
    let one : length more ≡ 1 = goes.one_event sizes (stamp_of i p) in
    let long : length (p.events ++ more) ≡ length p.events + length more = length-append p.events more in
    let room : too_many (p.events ++ more) ≡ false = few_events (p.events ++ more) (omega (arith, long, one, events, few)) in
    record {
      accepted = ap (λ (o : Option CallKind). option_or o (events_full p.events more)) goes.accepted ∙ ap (λ (t : Bool). kind_if t TooManyEvents) room;
      behind = record { files = goes.behind; events = omega (arith, long, one, events) };
    }

-- the calls from call i on
pub body_runs : (sizes : Sizes) (i : ℕ) (words : List ℕ) (p : Progress) → i + length words ≤ 33 → IsRunBefore i p
    → (q : Progress) × (run_body sizes i p (generated_calls i words) ≡ Ok q) × IsRunBefore (i + length words) q
body_runs sizes i [] p few before =
    let same : i ≡ i + 0 = omega arith in
    (p, refl, subst (λ (k : ℕ). IsRunBefore k p) same before)
body_runs sizes i (word ∷ words) p few before =
    let c : Call = generated_call i word in
    let here = accept i sizes p c (omega (arith, few)) before.events (call_goes i word p.files (omega (arith, few)) before.files) in
    let rest = body_runs sizes (i + 1) words (after_call sizes i p c) (omega (arith, few)) here.behind in
    let all : i + 1 + length words ≡ i + length (word ∷ words) = omega arith in (
      rest.0,
      ap (λ (o : Option CallKind). unless_refused o (8 + i) (run_body sizes (i + 1) (after_call sizes i p c) (generated_calls (i + 1) words))) here.accepted ∙ rest.1,
      subst (λ (k : ℕ). IsRunBefore k rest.0) all rest.2,
    )
