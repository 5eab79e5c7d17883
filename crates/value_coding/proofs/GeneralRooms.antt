-- General: every file keeps its 65,536 bytes, and no size is above that.
use Rattle.std.proofs.Common.{◌≡◌, ℕ, zero, suc, ◌-◌, ◌<◌, ◌≤◌, Bool, true, false, List, [], ◌∷◌, length, map, Option, Some, None, slice_get, unwrap_or, All, refl, arith}
use Rattle.std.proofs.lemmas.List.{length-map}
use Rattle.fer_events.specs.declared.event.Event.{Event}
use Rattle.fer_events.specs.declared.event.Kind.{Kind}
use Rattle.fer_events.specs.declared.event.Kind.TheVariants.{Extend, Trunc}
use Rattle.fer_events.specs.declared.event.Effect.{Effect}
use Rattle.fer_events.specs.declared.event.Effect.TheVariants.{Bytes, Grow, Cut, SetAttr, PutName, ClearName, See, Nothing}
use Rattle.fer_events.specs.States.{State, at_place, effected, after_option, after_numbers, start_state}
use Rattle.fer_events.specs.Tables.{Trace, IsTrace, IsEventOf, HasEffect, file_count}
use Rattle.fer_events.specs.Truth.{size_of}
use Rattle.value_coding.specs.declared.cell.Cell.TheVariants.{Segment}
use Rattle.value_coding.specs.Writers.{carries}
use Rattle.value_coding.proofs.Places.{item-apart, item-here}
use Rattle.value_coding.proofs.Steps.{HasCell, within}
use Rattle.value_coding.proofs.Decides.{cell-at_start, cell-kept, sizes-kept, at-place}

module _ (t : Trace) (file : ℕ) (rules : (k : ℕ) (e : Event) → slice_get t.events k ≡ Some e → IsEventOf t e) where
  option-kept : (s : State) (found : Option Event) → ((e : Event) → found ≡ Some e → IsEventOf t e) → HasCell s (Segment file 0 0) → HasCell (after_option s found) (Segment file 0 0)
  option-kept s None is h = h
  option-kept s (Some e) is h = let one = is e refl in cell-kept s (Segment file 0 0) e h (within t e.kind e.effect one.effect)

  bytes-after : (order : List ℕ) (s : State) → HasCell s (Segment file 0 0) → HasCell (after_numbers t.events s order) (Segment file 0 0)
  bytes-after [] s h = h
  bytes-after (a ∷ order) s h =
      bytes-after order (after_option s (slice_get t.events (a - 1))) (option-kept s (slice_get t.events (a - 1)) (λ e is. rules (a - 1) e is) h)

  abbrev Small : State → Type 0
  Small s = (file < length s.sizes) × (size_of s file ≤ 65536)

  grown : (kind : Kind) (at size : ℕ) (text : List ℕ) → HasEffect t kind (Grow at text size) → size ≤ 65536
  grown Extend at size text h = h.1
  grown kind at size text h = absurd h

  shut : (kind : Kind) (size : ℕ) → HasEffect t kind (Cut size) → size ≤ 65536
  shut Trunc size h = h
  shut kind size h = absurd h

  set-small : (s : State) (place : Option ℕ) (size : ℕ) (b : Bool) → carries place file ≡ b → size ≤ 65536 → Small s → unwrap_or (slice_get (at_place place (λ _. size) s.sizes) file) 0 ≤ 65536
  set-small s place size true e h small = let is = item-here place (λ _. size) s.sizes file 0 small.0 e in omega arith
  set-small s place size false e h small = let is = item-apart place (λ _. size) s.sizes file 0 e in omega (arith, small.1)

  effect-small : (s : State) (slot place : Option ℕ) (kind : Kind) (effect : Effect) → HasEffect t kind effect → Small s → size_of (effected s slot place effect) file ≤ 65536
  effect-small s slot place kind (Bytes at text) h small = small.1
  effect-small s slot place kind (Grow at text size) h small = set-small s place size (carries place file) refl (grown kind at size text h) small
  effect-small s slot place kind (Cut size) h small = set-small s place size (carries place file) refl (shut kind size h) small
  effect-small s slot place kind (SetAttr key value) h small = small.1
  effect-small s slot place kind PutName h small = small.1
  effect-small s slot place kind ClearName h small = small.1
  effect-small s slot place kind (See word) h small = small.1
  effect-small s slot place kind Nothing h small = small.1

  option-small : (s : State) (found : Option Event) → ((e : Event) → found ≡ Some e → IsEventOf t e) → Small s → Small (after_option s found)
  option-small s None is small = small
  option-small s (Some e) is small =
      let one = is e refl in (omega (arith, small.0, sizes-kept s e.slot e.file e.effect), effect-small s e.slot e.file e.kind e.effect one.effect small)

  small-after : (order : List ℕ) (s : State) → Small s → Small (after_numbers t.events s order)
  small-after [] s small = small
  small-after (a ∷ order) s small =
      small-after order (after_option s (slice_get t.events (a - 1))) (option-small s (slice_get t.events (a - 1)) (λ e is. rules (a - 1) e is) small)

start-small : (contents : List (List ℕ)) (file : ℕ) → All (λ content. length content ≤ 65536) contents → unwrap_or (slice_get (map (λ (content : List ℕ). length content) contents) file) 0 ≤ 65536
start-small [] file fit = omega arith
start-small (content ∷ contents) zero fit = fit 0 content (omega arith)
start-small (content ∷ contents) (suc file) fit = start-small contents file (λ k d l. fit (suc k) d (omega arith))

pub bytes-whole : (t : Trace) (file : ℕ) (order : List ℕ) → IsTrace t → file < file_count t → length (unwrap_or (slice_get (after_numbers t.events (start_state t) order).bytes file) []) ≡ 65536
bytes-whole t file order rules there =
    (bytes-after t file (λ k e is. at-place (IsEventOf t) t.events k e rules.events_fit is) order (start_state t) (cell-at_start t (Segment file 0 0) rules (there, omega arith))).1

pub size-fits : (t : Trace) (file : ℕ) (order : List ℕ) → IsTrace t → file < file_count t → size_of (after_numbers t.events (start_state t) order) file ≤ 65536
size-fits t file order rules there =
    (small-after t file (λ k e is. at-place (IsEventOf t) t.events k e rules.events_fit is) order (start_state t)
    (omega (arith, there, length-map t.start.contents (λ (content : List ℕ). length content)), start-small t.start.contents file rules.contents_fit)).1
