-- A state that fits the events fits them after any event, and after the setup.
use Rattle.std.proofs.Common.{◌≡◌, ℕ, ◌<◌, ◌≤◌, List, length, map, Option, Some, None, All, IfSome, sym, ◌∙◌, subst, true, false}
use Rattle.std.specs.List.{range_with_len}
use Rattle.std.proofs.lemmas.List.{length-map, length-replicate}
use Rattle.std.proofs.lemmas.List.Elements.{All-map}
use Rattle.std.proofs.lemmas.List.FromFn.{length-map-range_with_len}
use Rattle.fer_events.specs.declared.event.Event.{Event}
use Rattle.fer_events.specs.declared.event.Effect.{Effect}
use Rattle.fer_events.specs.declared.event.Effect.TheVariants.{Bytes, Grow, Cut, SetAttr, PutName, ClearName, See, Nothing}
use Rattle.fer_events.specs.Tables.{Trace, IsTrace, file_count}
use Rattle.fer_events.specs.States.{State, start_state, value_set, at_place, written, cleared, effected, after_event}
use Rattle.crash_state.specs.Fits.{Fits}
use Rattle.crash_state.specs.Whole.{IsWhole}
use Rattle.fer_events.proofs.AtPlace.{length-at_place, All-at_place}

effected_fits : (t : Trace) (s : State) (slot file : Option ℕ) (effect : Effect) → Fits s t → Fits (effected s slot file effect) t
effected_fits t s slot file (Bytes at text) fits = record { slots = fits.slots; sizes = fits.sizes; bytes = length-at_place file (written at text) s.bytes ∙ fits.bytes; keys = fits.keys; values = fits.values; words = fits.words }
effected_fits t s slot file (Grow at text size) fits = record { slots = fits.slots; sizes = length-at_place file (λ _. size) s.sizes ∙ fits.sizes; bytes = length-at_place file (written at text) s.bytes ∙ fits.bytes; keys = fits.keys; values = fits.values; words = fits.words }
effected_fits t s slot file (Cut size) fits = record { slots = fits.slots; sizes = length-at_place file (λ _. size) s.sizes ∙ fits.sizes; bytes = length-at_place file (cleared size) s.bytes ∙ fits.bytes; keys = fits.keys; values = fits.values; words = fits.words }
effected_fits t s slot file (SetAttr key value) fits =
    let change : List (Option ℕ) → List (Option ℕ) = at_place file (λ _. Some value) in
    record {
      slots = fits.slots;
      sizes = fits.sizes;
      bytes = fits.bytes;
      keys = length-at_place (Some key) change s.attrs ∙ fits.keys;
      values = All-at_place (λ values. length values ≡ file_count t) (Some key) change s.attrs (λ values len. length-at_place file (λ _. Some value) values ∙ len) fits.values;
      words = fits.words;
    }
effected_fits t s slot file PutName fits = record { slots = length-at_place slot (λ _. file) s.slots ∙ fits.slots; sizes = fits.sizes; bytes = fits.bytes; keys = fits.keys; values = fits.values; words = fits.words }
effected_fits t s slot file ClearName fits = record { slots = length-at_place slot (λ _. None) s.slots ∙ fits.slots; sizes = fits.sizes; bytes = fits.bytes; keys = fits.keys; values = fits.values; words = fits.words }
effected_fits t s slot file (See word) fits = record { slots = fits.slots; sizes = fits.sizes; bytes = fits.bytes; keys = fits.keys; values = fits.values; words = length-at_place (Some word) (λ _. true) s.seen ∙ fits.words }
effected_fits t s slot file Nothing fits = fits

pub after_event_fits : (t : Trace) (s : State) (e : Event) → Fits s t → Fits (after_event s e) t
after_event_fits t s e fits = effected_fits t s e.slot e.file e.effect fits

pub start_state_fits : (t : Trace) → IsTrace t → Fits (start_state t) t
start_state_fits t rules = record {
  slots = rules.slots_held;
  sizes = length-map t.start.contents (λ content. length content);
  bytes = length-map t.start.contents _;
  keys = length-map-range_with_len (λ key. map (λ file. value_set t.start.attrs file key) (range_with_len 0 (file_count t))) 0 (length t.keys);
  values = All-map (λ values. length values ≡ file_count t) (λ key. map (λ file. value_set t.start.attrs file key) (range_with_len 0 (file_count t))) (range_with_len 0 (length t.keys)) (λ k d below. length-map-range_with_len (λ file. value_set t.start.attrs file _) 0 (file_count t));
  words = length-replicate (length t.words) false;
}

pub start_state_whole : (t : Trace) → IsTrace t → IsWhole (start_state t)
start_state_whole t rules =
    let count = length-map t.start.contents (λ (content : List ℕ). length content) in
    record {
      sizes = All-map (λ size. size ≤ 65536) (λ content. length content) t.start.contents rules.contents_fit;
      held = subst (λ (n : ℕ). All (λ held. IfSome held (λ f. f < n)) t.start.slots) (sym count) rules.files_there;
    }

pub fits_as : (t : Trace) (s u : State) → s ≡ u → Fits u t → Fits s t
fits_as t s u e fits = subst (λ (v : State). Fits v t) (sym e) fits

pub whole_as : (s u : State) → s ≡ u → IsWhole u → IsWhole s
whole_as s u e whole = subst (λ (v : State). IsWhole v) (sym e) whole
