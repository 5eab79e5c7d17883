-- Where the call of a site stands in the body with all sites, and its event among the events.
use Rattle.std.proofs.Common.{◌≡◌, ◌⊎◌, ℕ, zero, suc, ◌+◌, ◌-◌, ◌<◌, ◌≤◌, ◌==◌, ◌&&◌, inl, inr, Bool, true, false, cond, List, [], ◌∷◌, ◌++◌, length, get_or, map, filter, Some, None, Ok, Err, IsTrue, refl, sym, ◌∙◌, ap, subst, arith, append_assoc}
use Rattle.std.specs.Prelude.{Result, count_by, nat_lt, slice_get, position}
use Rattle.std.specs.List.{All, position_or_len}
use Rattle.std.specs.List.Sorted.{IsNonDecreasingBy}
use Rattle.std.proofs.lemmas.Bool.{cases_lt, cases_eq, eqb-true}
use Rattle.std.proofs.lemmas.List.Quantifiers.{position-Some}
use Rattle.std.proofs.lemmas.Bool.Decides.{nat_tests}
use Rattle.std.proofs.lemmas.List.{append-nil}
use Rattle.std.proofs.lemmas.List.Elements.{All-nil, All-append, All-head, All-weaker}
use Rattle.std.proofs.lemmas.List.Sums.{sum_by-cons}
use Rattle.std.proofs.lemmas.Option.{slice_get_within, get_or_from_slice_get}
use Rattle.litmus_syntax.specs.Test.{Test}
use Rattle.litmus_syntax.specs.declared.call.Call.{Call}
use Rattle.litmus_syntax.specs.declared.call.Step.{Step}
use Rattle.litmus_syntax.specs.declared.site.Site.{Site}
use Rattle.litmus_syntax.specs.CallKinds.{is_sync}
use Rattle.litmus_syntax.specs.Forms.{is_formed_call}
use Rattle.litmus_syntax.specs.Sites.{AreSyncs, inserted_at, with_sites}
use Rattle.fer_events.specs.declared.event.Event.{Event}
use Rattle.fer_events.specs.declared.event.Kind.TheVariants.{Sync}
use Rattle.fer_events.specs.declared.event.Effect.TheVariants.{Nothing}
use Rattle.fer_events.proofs.GeneralPlaces.{passes_within}
use Rattle.fer_events.specs.Orders.{IsEvent}
use Rattle.fer_events.specs.Tables.{Trace}
use Rattle.call_events.specs.declared.files.Files.{Files}
use Rattle.call_events.specs.declared.files.Progress.{Progress}
use Rattle.call_events.specs.declared.making.Sizes.{Sizes}
use Rattle.call_events.specs.declared.call_kind.CallFault.{CallFault}
use Rattle.call_events.specs.Found.{no_files}
use Rattle.call_events.specs.Changes.{with_names}
use Rattle.call_events.specs.Asking.{asked, question_refusal}
use Rattle.call_events.specs.Running.{run_setup, stamp_of, events_next, after_call, body_refusal, run_body, begun}
use Rattle.call_events.specs.Resolved.{trace_of, sizes_of, asked_of, body_of, resolved, HasEvents}
use Rattle.call_events.proofs.Runs.{IsNext, events_next_txns}
use Rattle.sync_parts.specs.Sites.{AreInOrder, IsSiteEvent}
use Rattle.sync_parts.proofs.Leaving.{event-number, has-event}
use Rattle.sync_parts.proofs.Joining.{event-right, event-cases, slice_left, slice_right}
use Rattle.sync_parts.proofs.Chunks.{sync-event}
use Rattle.sync_parts.proofs.Rising.{event-has, next-calls}
use Rattle.sync_parts.proofs.Walking.{accepted, ok-same}
use Rattle.sync_parts.proofs.Tests.{answered, body_run}

abbrev after : Site → ℕ
after site = site.after

-- how many of the sites stand behind calls before this one
abbrev before : ℕ → List Site → ℕ
before number sites = count_by (λ site. nat_lt site.after number) sites

abbrev here_of : ℕ → List Site → List Site
here_of number sites = filter (λ site. site.after == number) sites

before-cons : (number : ℕ) (site : Site) (sites : List Site) → before number (site ∷ sites) ≡ cond (nat_lt site.after number) 1 0 + before number sites
before-cons number site sites = sum_by-cons (λ (s : Site). cond {A = ℕ} (nat_lt s.after number) 1 0) site sites

tail-rise : (site : Site) (sites : List Site) → IsNonDecreasingBy after (site ∷ sites) → IsNonDecreasingBy after sites
tail-rise site sites rise = λ i j d l h. rise (suc i) (suc j) d (omega (arith, l)) (omega (arith, h))

head-least : (site : Site) (sites : List Site) → IsNonDecreasingBy after (site ∷ sites) → (i : ℕ) (other : Site) → slice_get sites i ≡ Some other → site.after ≤ other.after
head-least site sites rise i other at =
    let there : i < length sites = slice_get_within sites i other at in
    let is = ap after (get_or_from_slice_get sites i other other at) in
    let up = rise 0 (suc i) other (omega arith) (omega (arith, there)) in
    omega (arith, up, is)

none-before : (number : ℕ) (sites : List Site) → ((i : ℕ) (site : Site) → slice_get sites i ≡ Some site → number ≤ site.after) → before number sites ≡ 0
none-before number [] all = refl
none-before number (site ∷ sites) all =
    let rest = none-before number sites (λ i s at. all (suc i) s at) in
    let far : number ≤ site.after = all 0 site refl in
    let out : nat_lt site.after number ≡ false = grind (arith, nat_tests) in
    let bit : ◌≡◌ {A = ℕ} (cond (nat_lt site.after number) 1 0) 0 = ap (λ (b : Bool). cond {A = ℕ} b 1 0) out in
    omega (arith, before-cons number site sites, bit, rest)

some-same : (site other : Site) (sites : List Site) (i : ℕ) → slice_get (site ∷ sites) zero ≡ Some other → site ≡ other
some-same site other sites i at = let is : Some site ≡ Some other = at in cc

few-before : (number : ℕ) (sites : List Site) (i : ℕ) (site : Site) → IsNonDecreasingBy after sites → slice_get sites i ≡ Some site → number ≤ site.after → before number sites ≤ i
few-before number [] i site rise at far = absurd (let there = slice_get_within {A = Site} [] i site at in omega (arith, there))
few-before number (first ∷ sites) zero site rise at far =
    let is : first ≡ site = some-same first site sites 0 at in
    let low : number ≤ first.after = omega (arith, far, ap after is) in
    let none = none-before number (first ∷ sites) (λ i s at_s. from-first i s at_s low) in
    omega (arith, none)
  where
    from-first : (i : ℕ) (s : Site) → slice_get (first ∷ sites) i ≡ Some s → number ≤ first.after → number ≤ s.after
    from-first zero s at_s low = let is = some-same first s sites 0 at_s in omega (arith, low, ap after is)
    from-first (suc i) s at_s low = let up = head-least first sites rise i s at_s in omega (arith, low, up)
few-before number (first ∷ sites) (suc i) site rise at far =
    let rest = few-before number sites i site (tail-rise first sites rise) at far in
    let bit : cond {A = ℕ} (nat_lt first.after number) 1 0 ≤ 1 = one-at-most (nat_lt first.after number) in
    omega (arith, before-cons number first sites, bit, rest)
  where
    one-at-most : (b : Bool) → cond {A = ℕ} b 1 0 ≤ 1
    one-at-most true = omega arith
    one-at-most false = omega arith

-- a site stands, among those behind its call, behind as many as stand behind that call before it
among-here : (number : ℕ) (sites : List Site) (i k : ℕ) (site : Site) → IsNonDecreasingBy after sites → slice_get sites i ≡ Some site → site.after ≡ number
    → k + before number sites ≡ i → slice_get (here_of number sites) k ≡ Some site
among-here number [] i k site rise at is count = absurd (let there = slice_get_within {A = Site} [] i site at in omega (arith, there))
among-here number (first ∷ sites) zero k site rise at is count =
    let same : first ≡ site = some-same first site sites 0 at in
    let own : (first.after == number) ≡ true = let e = ap after same ∙ is in grind (arith, nat_tests) in
    let start : k ≡ 0 = omega (arith, count) in
    ap (λ (b : Bool). slice_get (cond b (first ∷ here_of number sites) (here_of number sites)) k) own ∙ ap (slice_get (first ∷ here_of number sites)) start ∙ ap (λ (s : Site). Some s) same
among-here number (first ∷ sites) (suc i) k site rise at is count = elim (cases_lt first.after number) [
  | inl less ↦
      let out : (first.after == number) ≡ false = grind (arith, nat_tests) in
      let low : nat_lt first.after number ≡ true = grind (arith, nat_tests) in
      let bit : ◌≡◌ {A = ℕ} (cond (nat_lt first.after number) 1 0) 1 = ap (λ (b : Bool). cond {A = ℕ} b 1 0) low in
      let rest = among-here number sites i k site (tail-rise first sites rise) at is (omega (arith, count, before-cons number first sites, bit)) in
      ap (λ (b : Bool). slice_get (cond b (first ∷ here_of number sites) (here_of number sites)) k) out ∙ rest
  | inr not_less ↦
      let up : first.after ≤ site.after = head-least first sites rise i site at in
      let e : first.after ≡ number = omega (arith, not_less, up, is) in
      let own : (first.after == number) ≡ true = grind (arith, nat_tests) in
      let none : before number sites ≡ 0 = none-before number sites (λ j s at_s. let more = head-least first sites rise j s at_s in omega (arith, more, e)) in
      let out : nat_lt first.after number ≡ false = grind (arith, nat_tests) in
      let bit : ◌≡◌ {A = ℕ} (cond (nat_lt first.after number) 1 0) 0 = ap (λ (b : Bool). cond {A = ℕ} b 1 0) out in
      let next : k ≡ suc i = omega (arith, count, before-cons number first sites, bit, none) in
      let rest = among-here number sites i i site (tail-rise first sites rise) at is (omega (arith, none)) in
      ap (λ (b : Bool). slice_get (cond b (first ∷ here_of number sites) (here_of number sites)) k) own ∙ ap (slice_get (first ∷ here_of number sites)) next ∙ rest
]

-- those before the next call are those before this one and those behind this one
before-next : (number : ℕ) (sites : List Site) → before (number + 1) sites ≡ before number sites + length (here_of number sites)
before-next number [] = refl
before-next number (site ∷ sites) =
    let rest = before-next number sites in
    elim (cases_eq site.after number) [
      | inl e ↦
          let own : (site.after == number) ≡ true = grind (arith, nat_tests) in
          let low : nat_lt site.after (number + 1) ≡ true = grind (arith, nat_tests) in
          let out : nat_lt site.after number ≡ false = grind (arith, nat_tests) in
          let bit : ◌≡◌ {A = ℕ} (cond (nat_lt site.after (number + 1)) 1 0) 1 = ap (λ (b : Bool). cond {A = ℕ} b 1 0) low in
          let was : ◌≡◌ {A = ℕ} (cond (nat_lt site.after number) 1 0) 0 = ap (λ (b : Bool). cond {A = ℕ} b 1 0) out in
          let long : length (here_of number (site ∷ sites)) ≡ suc (length (here_of number sites)) = ap (λ (b : Bool). length (cond b (site ∷ here_of number sites) (here_of number sites))) own in
          omega (arith, before-cons (number + 1) site sites, before-cons number site sites, bit, was, long, rest)
      | inr ne ↦
          let other : (site.after == number) ≡ false = grind (arith, nat_tests) in
          let same : nat_lt site.after (number + 1) ≡ nat_lt site.after number = grind (arith, nat_tests) in
          let bit : ◌≡◌ {A = ℕ} (cond (nat_lt site.after (number + 1)) 1 0) (cond (nat_lt site.after number) 1 0) = ap (λ (b : Bool). cond {A = ℕ} b 1 0) same in
          let long : length (here_of number (site ∷ sites)) ≡ length (here_of number sites) = ap (λ (b : Bool). length (cond b (site ∷ here_of number sites) (here_of number sites))) other in
          omega (arith, before-cons (number + 1) site sites, before-cons number site sites, bit, long, rest)
    ]

abbrev in_line : ℕ → Site → Step
in_line line site = record { line = line; call = site.call }

slice-mapped : (line : ℕ) (sites : List Site) (k : ℕ) (site : Site) → slice_get sites k ≡ Some site → slice_get (map (in_line line) sites) k ≡ Some (in_line line site)
slice-mapped line [] k site at = absurd (let there = slice_get_within {A = Site} [] k site at in omega (arith, there))
slice-mapped line (first ∷ sites) zero site at = ap (λ (s : Site). Some (in_line line s)) (some-same first site sites 0 at)
slice-mapped line (first ∷ sites) (suc k) site at = slice-mapped line sites k site at

length-in_line : (line : ℕ) (sites : List Site) → length (map (in_line line) sites) ≡ length sites
length-in_line line [] = refl
length-in_line line (site ∷ sites) = ap suc (length-in_line line sites)

-- the step of a site in the body with all sites
pub site-step : (number : ℕ) (steps : List Step) (sites : List Site) (i k : ℕ) (site : Site) → IsNonDecreasingBy after sites → slice_get sites i ≡ Some site
    → number ≤ site.after → site.after < number + length steps → k + before number sites + number ≡ site.after + 1 + i
    → (step : Step) × (slice_get (with_sites number steps sites) k ≡ Some step) × (step.call ≡ site.call)
site-step number [] sites i k site rise at low high count = absurd (omega (arith, low, high))
site-step number (step ∷ steps) sites i k site rise at low high count =
    let added : List Step = inserted_at number step.line sites in
    let rest : List Step = with_sites (number + 1) steps sites in
    elim (cases_eq site.after number) [
      | inl e ↦
          let few = few-before number sites i site rise at low in
          let next : k ≡ suc (k - 1) = omega (arith, count, e, few) in
          let here : slice_get (here_of number sites) (k - 1) ≡ Some site = among-here number sites i (k - 1) site rise at e (omega (arith, count, e, few)) in
          let made : slice_get added (k - 1) ≡ Some (in_line step.line site) = slice-mapped step.line (here_of number sites) (k - 1) site here in
          let there : k - 1 < length added = slice_get_within added (k - 1) (in_line step.line site) made in
          (in_line step.line site, ap (slice_get (step ∷ added ++ rest)) next ∙ slice_left added rest (k - 1) there ∙ made, refl)
      | inr ne ↦
          let far : number + 1 ≤ site.after = omega (arith, low, ne) in
          let few = few-before (number + 1) sites i site rise at far in
          let more = before-next number sites in
          let long = length-in_line step.line (here_of number sites) in
          let q : ℕ = k - 1 - length added in
          let count_more : q + before (number + 1) sites + (number + 1) ≡ site.after + 1 + i = omega (arith, count, few, more, long, far) in
          let found = site-step (number + 1) steps sites i q site rise at far (omega (arith, high)) count_more in
          let next : k ≡ suc (k - 1) = omega (arith, count, few, more, far) in
          let place : k - 1 ≡ length added + q = omega (arith, count, few, more, long, far) in
          (found.0, ap (slice_get (step ∷ added ++ rest)) next ∙ slice_right added rest q (k - 1) place ∙ found.1, found.2)
    ]

-- what a body's run appends is of its calls
record Extends (number : ℕ) (old new : List Event) : Type 0 where
  more : List Event
  is : new ≡ old ++ more
  calls : All (λ e. number ≤ e.call) more

own-calls : (sizes : Sizes) (number : ℕ) (p : Progress) (call : Call) → All (λ e. e.call ≡ number) (events_next sizes number p call)
own-calls sizes number p call =
    let more : List Event = events_next sizes number p call in
    All-weaker (IsNext (stamp_of number p) (length more)) (λ e. e.call ≡ number) (λ e h. h.0) more (events_next_txns sizes (stamp_of number p) (with_names p.files call) call)

run-extends : (sizes : Sizes) (number : ℕ) (p out : Progress) (steps : List Step) → run_body sizes number p steps ≡ Ok out → Extends number p.events out.events
run-extends sizes number p out [] h =
    let same : p ≡ out = ok-same p out h in
    record { more = []; is = sym (ap (λ (q : Progress). q.events) same) ∙ sym (append-nil p.events); calls = All-nil (λ e. number ≤ e.call) }
run-extends sizes number p out (step ∷ steps) h =
    let ok = accepted (body_refusal sizes number p step.call) step.line (run_body sizes (number + 1) (after_call sizes number p step.call) steps) out h in
    let rest = run-extends sizes (number + 1) (after_call sizes number p step.call) out steps ok.1 in
    let here : List Event = events_next sizes number p step.call in
    record {
      more = here ++ rest.more;
      is = rest.is ∙ append_assoc p.events here rest.more;
      calls = All-append (λ e. number ≤ e.call) here rest.more
          (All-weaker (λ e. e.call ≡ number) (λ e. number ≤ e.call) (λ e h. omega (arith, h)) here (own-calls sizes number p step.call))
          (All-weaker (λ e. number + 1 ≤ e.call) (λ e. number ≤ e.call) (λ e h. omega (arith, h)) rest.more rest.calls);
    }

-- one event has this call: those before it are of earlier calls, those behind it of later ones
record HasOne (call : ℕ) (es : List Event) : Type 0 where
  front : List Event
  event : Event
  back : List Event
  is : es ≡ front ++ event ∷ back
  earlier : All (λ e. e.call < call) front
  own : event.call ≡ call
  later : All (λ e. call < e.call) back

run-one : (sizes : Sizes) (number k : ℕ) (p out : Progress) (steps : List Step) (step : Step) → run_body sizes number p steps ≡ Ok out → All (λ e. e.call < number) p.events
    → slice_get steps k ≡ Some step → is_sync step.call ≡ true → HasOne (number + k) out.events
run-one sizes number k p out [] step h below at sync = absurd (let there = slice_get_within {A = Step} [] k step at in omega (arith, there))
run-one sizes number zero p out (first ∷ steps) step h below at sync =
    let same : first ≡ step = (let is : Some first ≡ Some step = at in cc) in
    let first_sync : is_sync first.call ≡ true = ap (λ (s : Step). is_sync s.call) same ∙ sync in
    let ok = accepted (body_refusal sizes number p first.call) first.line (run_body sizes (number + 1) (after_call sizes number p first.call) steps) out h in
    let rest = run-extends sizes (number + 1) (after_call sizes number p first.call) out steps ok.1 in
    let here : List Event = events_next sizes number p first.call in
    let one = sync-event sizes (stamp_of number p) (with_names p.files first.call) first.call first_sync in
    let call : All (λ e. e.call ≡ number) (one.0 ∷ []) = subst (All (λ (e : Event). e.call ≡ number)) one.1 (own-calls sizes number p first.call) in
    let own : one.0.call ≡ number = All-head (λ (e : Event). e.call ≡ number) one.0 [] call in
    let zero_more : number + 0 ≡ number = omega arith in
    record {
      front = p.events;
      event = one.0;
      back = rest.more;
      is = rest.is ∙ append_assoc p.events here rest.more ∙ ap (λ (l : List Event). p.events ++ (l ++ rest.more)) one.1;
      earlier = All-weaker (λ e. e.call < number) (λ e. e.call < number + 0) (λ e l. omega (arith, l)) p.events below;
      own = omega (arith, own);
      later = All-weaker (λ e. number + 1 ≤ e.call) (λ e. number + 0 < e.call) (λ e l. omega (arith, l)) rest.more rest.calls;
    }
run-one sizes number (suc k) p out (first ∷ steps) step h below at sync =
    let ok = accepted (body_refusal sizes number p first.call) first.line (run_body sizes (number + 1) (after_call sizes number p first.call) steps) out h in
    let next : All (λ e. e.call < number + 1) (p.events ++ events_next sizes number p first.call) = next-calls sizes (stamp_of number p) p.events (with_names p.files first.call) first.call below in
    let one = run-one sizes (number + 1) k (after_call sizes number p first.call) out steps step ok.1 next at sync in
    let e : number + 1 + k ≡ number + suc k = omega arith in
    subst (λ (n : ℕ). HasOne n out.events) e one

one-there : (call : ℕ) (es : List Event) → HasOne call es → (s : ℕ) × (e : Event) × IsEvent es s e × (e.call ≡ call)
one-there call es one =
    let at : IsEvent (one.front ++ one.event ∷ one.back) (length one.front + 1) one.event = event-right one.front (one.event ∷ one.back) 1 (length one.front + 1) one.event refl (omega arith, refl) in
    (length one.front + 1, one.event, subst (λ (l : List Event). IsEvent l (length one.front + 1) one.event) (sym one.is) at, one.own)

one-place : (call : ℕ) (es : List Event) (one : HasOne call es) (s : ℕ) (e : Event) → IsEvent es s e → e.call ≡ call → s ≡ length one.front + 1
one-place call es one s e at own = place (event-cases one.front (one.event ∷ one.back) s e (subst (λ (l : List Event). IsEvent l s e) one.is at))
  where
    behind : (z : ℕ) → IsEvent (one.event ∷ one.back) z e → z ≡ 1
    behind zero is = absurd (let low = is.0 in omega (arith, low))
    behind (suc zero) is = refl
    behind (suc (suc z)) is = absurd (
        let inner : suc (suc z) - 1 ≡ suc z = omega arith in
        let outer : suc z - 1 ≡ z = omega arith in
        let there : IsEvent one.back (suc z) e = (omega arith, ap (slice_get one.back) outer ∙ ap (slice_get (one.event ∷ one.back)) (sym inner) ∙ is.1) in
        let far = event-has (λ g. call < g.call) one.back (suc z) e one.later there in
        omega (arith, far, own))

    place : IsEvent one.front s e ⊎ ((z : ℕ) × (s ≡ length one.front + z) × IsEvent (one.event ∷ one.back) z e) → s ≡ length one.front + 1
    place (inl early) = absurd (let low = event-has (λ g. g.call < call) one.front s e one.earlier early in omega (arith, low, own))
    place (inr late) = late.1 ∙ ap (λ n. length one.front + n) (behind late.0 late.2)

-- the run that leaves the events of a test
record Ran (litmus : Test) (sites : List Site) (t : Trace) : Type 0 where
  setup : Files
  out : Progress
  ran : body_run litmus sites setup ≡ Ok out
  events : out.events ≡ t.events

ran-body : (litmus : Test) (sites : List Site) (t : Trace) (setup : Files) (run : Result Progress CallFault) → body_run litmus sites setup ≡ run → asked_of litmus setup run ≡ Ok t → Ran litmus sites t
ran-body litmus sites t setup (Err fault) is h = absurd (let bad : ◌≡◌ {A = Result Trace CallFault} (Err fault) (Ok t) = h in cc)
ran-body litmus sites t setup (Ok p) is h =
    let end = answered (question_refusal p.files litmus.pred) litmus.pred_line (trace_of setup (asked p.files litmus.pred) p.events) t h in
    record { setup = setup; out = p; ran = is; events = ap (λ (u : Trace). u.events) end.1 }

ran-setup : (litmus : Test) (sites : List Site) (t : Trace) (setup : Result Files CallFault) → body_of litmus sites setup ≡ Ok t → Ran litmus sites t
ran-setup litmus sites t (Err fault) h = absurd (let bad : ◌≡◌ {A = Result Trace CallFault} (Err fault) (Ok t) = h in cc)
ran-setup litmus sites t (Ok setup) h = ran-body litmus sites t setup (body_run litmus sites setup) refl h

ran : (litmus : Test) (sites : List Site) (t : Trace) → HasEvents litmus sites t → Ran litmus sites t
unfolding resolved
ran litmus sites t h = ran-setup litmus sites t (run_setup no_files litmus.setup) h

and-first : (a b : Bool) → (a && b) ≡ true → a ≡ true
and-first true b h = refl
and-first false b h = h

site-one : (litmus : Test) (sites : List Site) (t : Trace) (i : ℕ) (site : Site) → AreSyncs sites → AreInOrder litmus.body sites → HasEvents litmus sites t
    → slice_get sites i ≡ Some site → HasOne (site.after + i + 1) t.events
site-one litmus sites t i site syncs order h at =
    let there : i < length sites = slice_get_within sites i site at in
    let is = get_or_from_slice_get sites i site site at in
    let range : (1 ≤ site.after) × (site.after ≤ length litmus.body) = subst (λ (s : Site). (1 ≤ s.after) × (s.after ≤ length litmus.body)) is (order.behind i site there) in
    let formed : IsTrue (is_sync site.call && is_formed_call site.call) = subst (λ (s : Site). IsTrue (is_sync s.call && is_formed_call s.call)) is (syncs i site there) in
    let sync : is_sync site.call ≡ true = and-first (is_sync site.call) (is_formed_call site.call) formed in
    let none : before 1 sites ≡ 0 = none-before 1 sites (λ j s at_s. behind-one j s at_s) in
    let found = site-step 1 litmus.body sites i (site.after + i) site order.rise at range.0 (omega (arith, range.1)) (omega (arith, none)) in
    let run = ran litmus sites t h in
    let one = run-one (sizes_of litmus) 1 (site.after + i) (begun run.setup) run.out (with_sites 1 litmus.body sites) found.0 run.ran (All-nil (λ e. e.call < 1)) found.1
    (ap is_sync found.2 ∙ sync) in
    let e : 1 + (site.after + i) ≡ site.after + i + 1 = omega arith in
    subst (λ (n : ℕ). HasOne n t.events) e (subst (HasOne (1 + (site.after + i))) run.events one)
  where
    behind-one : (j : ℕ) (s : Site) → slice_get sites j ≡ Some s → 1 ≤ s.after
    behind-one j s at_s =
        let range = order.behind j s (slice_get_within sites j s at_s) in
        let is = ap after (get_or_from_slice_get sites j s s at_s) in
        omega (arith, range.0, is)

pub site-there : (litmus : Test) (sites : List Site) (t : Trace) (i : ℕ) → AreSyncs sites → AreInOrder litmus.body sites → HasEvents litmus sites t
    → (site : Site) → slice_get sites i ≡ Some site → (s : ℕ) × IsSiteEvent t.events sites i s
site-there litmus sites t i syncs order h site at =
    let found = one-there (site.after + i + 1) t.events (site-one litmus sites t i site syncs order h at) in
    (found.0, record { site = site; at = at; event = found.1; is = found.2; call = found.3 })

same-site : (sites : List Site) (i : ℕ) (a b : Site) → slice_get sites i ≡ Some a → slice_get sites i ≡ Some b → a ≡ b
same-site sites i a b at_a at_b = let is : Some a ≡ Some b = sym at_a ∙ at_b in cc

pub site-only : (litmus : Test) (sites : List Site) (t : Trace) (i s r : ℕ) → AreSyncs sites → AreInOrder litmus.body sites → HasEvents litmus sites t
    → IsSiteEvent t.events sites i s → IsSiteEvent t.events sites i r → s ≡ r
site-only litmus sites t i s r syncs order h first second =
    let one = site-one litmus sites t i first.site syncs order h first.at in
    let same : second.site ≡ first.site = same-site sites i second.site first.site second.at first.at in
    let call : second.event.call ≡ first.site.after + i + 1 = second.call ∙ ap (λ (x : Site). x.after + i + 1) same in
    one-place (first.site.after + i + 1) t.events one s first.event first.is first.call
    ∙ sym (one-place (first.site.after + i + 1) t.events one r second.event second.is call)

-- what is found by its call is the event of the site
pub found-site : (sites : List Site) (events : List Event) (i k : ℕ) (site : Site) (call : ℕ) → slice_get sites i ≡ Some site → call ≡ site.after + i + 1
    → position (λ e. e.call == call) events ≡ Some k → IsSiteEvent events sites i (k + 1)
found-site sites events i k site call at is found =
    let none : k < length events = (position-Some (λ (e : Event). e.call == call) events k nothing found).0 in
    let event = has-event events (k + 1) (omega arith) (omega (arith, none)) in
    let passes = (position-Some (λ (e : Event). e.call == call) events k event.0 found).1 in
    let place : k + 1 - 1 ≡ k = omega arith in
    let same : get_or events k event.0 ≡ event.0 = get_or_from_slice_get events k event.0 event.0 (ap (slice_get events) (sym place) ∙ event.1.1) in
    let own : (event.0.call == call) ≡ true = rw same at passes in
    let calls : event.0.call ≡ call = eqb-true event.0.call call own in
    record { site = site; at = at; event = event.0; is = event.1; call = calls ∙ is }
  where
    nothing : Event
    nothing = record { kind = Sync; file = None; block = None; dir = None; slot = None; call = 0; txn = 0; effect = Nothing }

pub found-none : (litmus : Test) (sites : List Site) (t : Trace) (i : ℕ) (site : Site) (call : ℕ) → AreSyncs sites → AreInOrder litmus.body sites → HasEvents litmus sites t
    → slice_get sites i ≡ Some site → call ≡ site.after + i + 1 → position (λ e. e.call == call) t.events ≡ None → ⊥
found-none litmus sites t i site call syncs order h at is none =
    let s = site-there litmus sites t i syncs order h site at in
    let there : IsSiteEvent t.events sites i s.0 = s.1 in
    let same = same-site sites i there.site site there.at at in
    let own : there.event.call ≡ call = there.call ∙ ap (λ (x : Site). x.after + i + 1) same ∙ sym is in
    let number = event-number t.events s.0 there.event there.is in
    let read = get_or_from_slice_get t.events (s.0 - 1) there.event there.event there.is.1 in
    let passes : (get_or t.events (s.0 - 1) there.event).call == call ≡ true = let e = ap (λ (g : Event). g.call) read ∙ own in grind (arith, nat_tests) in
    let short = passes_within (λ (e : Event). e.call == call) t.events (s.0 - 1) there.event (omega (arith, number.0, number.1)) passes in
    let yes_it_is : nat_lt (position_or_len (λ (e : Event). e.call == call) t.events) (length t.events) ≡ true = grind (arith, nat_tests) in
    let bad : Some (position_or_len (λ (e : Event). e.call == call) t.events) ≡ None =
    sym (ap (λ (b : Bool). cond b (Some (position_or_len (λ (e : Event). e.call == call) t.events)) None) yes_it_is) ∙ none in
    cc
