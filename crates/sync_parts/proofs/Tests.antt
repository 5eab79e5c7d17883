-- A test with fewer sites has the events of the test with more, without some syncs.
use Rattle.std.proofs.Common.{◌≡◌, ℕ, List, [], Bool, false, Option, Some, None, Ok, Err, refl, sym, ◌∙◌, ap, subst, arith}
use Rattle.std.specs.Prelude.{Result}
use Rattle.litmus_syntax.specs.Test.{Test}
use Rattle.litmus_syntax.specs.declared.site.Site.{Site}
use Rattle.litmus_syntax.specs.Sites.{AreSyncs, StandOutside, with_sites}
use Rattle.fer_events.specs.declared.event.Event.{Event}
use Rattle.fer_events.specs.Orders.{IsEvent}
use Rattle.fer_events.specs.Tables.{Trace}
use Rattle.call_events.specs.declared.files.Files.{Files}
use Rattle.call_events.specs.declared.files.Progress.{Progress}
use Rattle.call_events.specs.declared.call_kind.CallKind.{CallKind}
use Rattle.call_events.specs.declared.call_kind.CallFault.{CallFault}
use Rattle.call_events.specs.declared.call_kind.CallFault.TheVariants.{Refused}
use Rattle.call_events.specs.Asking.{asked, question_refusal}
use Rattle.call_events.specs.Found.{no_files}
use Rattle.call_events.specs.Running.{unless_refused, run_setup, run_body, begun}
use Rattle.call_events.specs.Resolved.{trace_of, sizes_of, asked_of, body_of, resolved, HasEvents}
use Rattle.sync_parts.specs.Without.{IsWithout, KeepsCalls}
use Rattle.sync_parts.specs.Sites.{AreSome, sites_present, calls_present, call_stays, places_from, places_present}
use Rattle.sync_parts.proofs.Rising.{none_rise}
use Rattle.sync_parts.proofs.Walking.{Follows, thinned-sites, some-present, Left, walk}

no-event : (y : ℕ) (g : Event) → IsEvent [] y g → ⊥
no-event y g at = let bad = at.1 in cc

begin : IsWithout [] [] []
begin = record {
  ascending = λ i j d l h. absurd (omega arith);
  within = λ k d h. absurd (omega arith);
  each = refl;
  alike = λ a x f at_x at_f. absurd (no-event a x at_x);
  together = λ a b pa pb. (λ t. absurd (no-event a t.0 t.2), λ t. absurd (let low = t.2.0 in omega arith));
  idle = λ x f at out. absurd (no-event x f at);
  alone = λ x y t out. absurd (no-event x t.0 t.2);
}

begins : (stays : ℕ → Bool) → Follows stays 1 1 [] [] None None
begins stays = record {
  places = [];
  named = refl;
  without = begin;
  small_rises = none_rise;
  large_rises = none_rise;
  calls = λ a b pa pb. (λ t. absurd (no-event a t.0 t.2), λ t. absurd (let low = t.2.0 in omega arith));
  small_calls = λ k d h. absurd (omega arith);
  large_calls = λ k d h. absurd (omega arith);
  counts = omega arith;
  small_last = tt;
  large_last = tt;
  opened = tt;
}

abbrev stays_in : Test → List Site → List Bool → ℕ → Bool
stays_in litmus sites present = call_stays (calls_present 1 litmus.body sites present)

abbrev IsLeftOf : Test → List Site → List Bool → Result Files CallFault → Trace → Type 0
IsLeftOf litmus sites present setup t =
    (es : List Event) × (body_of litmus (sites_present sites present) setup ≡ Ok (record t { events = es }))
    × (IsWithout (places_present litmus.body sites present t.events) t.events es × KeepsCalls (places_present litmus.body sites present t.events) t.events es)

pub answered : (o : Option CallKind) (line : ℕ) (u t : Trace) → unless_refused o line (Ok u) ≡ Ok t → (o ≡ None) × (u ≡ t)
answered None line u t h = (refl, let same : ◌≡◌ {A = Result Trace CallFault} (Ok u) (Ok t) = h in cc)
answered (Some kind) line u t h = absurd (let bad : ◌≡◌ {A = Result Trace CallFault} (Err (Refused line kind)) (Ok t) = h in cc)

abbrev pub body_run : Test → List Site → Files → Result Progress CallFault
body_run litmus sites setup = run_body (sizes_of litmus) 1 (begun setup) (with_sites 1 litmus.body sites)

left-body : (litmus : Test) (sites : List Site) (present : List Bool) (t : Trace) (setup : Files) (run : Result Progress CallFault) → AreSyncs sites → StandOutside litmus.body sites
    → body_run litmus sites setup ≡ run → asked_of litmus setup run ≡ Ok t → IsLeftOf litmus sites present (Ok setup) t
left-body litmus sites present t setup (Err fault) syncs outside is h = absurd (let bad : ◌≡◌ {A = Result Trace CallFault} (Err fault) (Ok t) = h in cc)
left-body litmus sites present t setup (Ok p) syncs outside is h =
    let stays : ℕ → Bool = stays_in litmus sites present in
    let end = answered (question_refusal p.files litmus.pred) litmus.pred_line (trace_of setup (asked p.files litmus.pred) p.events) t h in
    let rest : Left stays (sizes_of litmus) 1 (begun setup) (with_sites 1 litmus.body (sites_present sites present)) p =
    walk stays (sizes_of litmus) 1 1 setup [] [] None None false (with_sites 1 litmus.body (sites_present sites present)) (with_sites 1 litmus.body sites) refl
    (thinned-sites litmus.body sites present syncs outside) (begins stays) p is in
    let es : List Event = rest.left.events in
    let asks : Files → Result Trace CallFault = λ g. unless_refused (question_refusal g litmus.pred) litmus.pred_line (Ok (trace_of setup (asked g litmus.pred) es)) in
    let small : Trace = trace_of setup (asked p.files litmus.pred) es in
    let trace : small ≡ record t { events = es } = ap (λ (u : Trace). record u { events = es }) end.1 in
    let events : p.events ≡ t.events = ap (λ (u : Trace). u.events) end.1 in (
      es,
      ap (asked_of litmus setup) rest.ran ∙ ap asks rest.files ∙ ap (λ (o : Option CallKind). unless_refused o litmus.pred_line (Ok small)) end.0 ∙ ap (λ (u : Trace). Ok u) trace,
      (
        subst (λ (l : List Event). IsWithout (places_from 1 stays l) l es) events rest.without,
        subst (λ (l : List Event). KeepsCalls (places_from 1 stays l) l es) events rest.calls,
      ),
    )

left-setup : (litmus : Test) (sites : List Site) (present : List Bool) (t : Trace) (setup : Result Files CallFault) → AreSyncs sites → StandOutside litmus.body sites
    → body_of litmus sites setup ≡ Ok t → IsLeftOf litmus sites present setup t
left-setup litmus sites present t (Err fault) syncs outside h = absurd (let bad : ◌≡◌ {A = Result Trace CallFault} (Err fault) (Ok t) = h in cc)
left-setup litmus sites present t (Ok setup) syncs outside h = left-body litmus sites present t setup (body_run litmus sites setup) syncs outside refl h

pub left-present : (litmus : Test) (sites : List Site) (present : List Bool) (t : Trace) → AreSyncs sites → StandOutside litmus.body sites → HasEvents litmus sites t
    → (es : List Event) × HasEvents litmus (sites_present sites present) (record t { events = es })
    × (IsWithout (places_present litmus.body sites present t.events) t.events es × KeepsCalls (places_present litmus.body sites present t.events) t.events es)
unfolding resolved
left-present litmus sites present t syncs outside h = left-setup litmus sites present t (run_setup no_files litmus.setup) syncs outside h

pub left-test : (litmus : Test) (few many : List Site) (t : Trace) → AreSyncs many → StandOutside litmus.body many → AreSome few many → HasEvents litmus many t
    → (es : List Event) × HasEvents litmus few (record t { events = es }) × ((places : List ℕ) × IsWithout places t.events es × KeepsCalls places t.events es)
left-test litmus few many t syncs outside some h =
    let which = some-present few many some in
    let found = left-present litmus many which.0 t syncs outside h in
    (found.0, subst (λ (l : List Site). HasEvents litmus l (record t { events = found.0 })) (sym which.1) found.1, (places_present litmus.body many which.0 t.events, found.2.0, found.2.1))
