-- General: a word was seen after events exactly where one of them is a mark of it.
use Rattle.std.proofs.Common.{◌≡◌, ℕ, zero, suc, ◌-◌, ◌<◌, Bool, true, false, ◌||◌, eqb, List, [], ◌∷◌, length, replicate, Option, Some, None, slice_get, unwrap_or, refl, ◌∙◌, ap, arith}
use Rattle.std.specs.List.{list_any}
use Rattle.std.specs.Option.{option_map_or}
use Rattle.std.proofs.lemmas.List.{length-replicate}
use Rattle.fer_events.specs.declared.event.Event.{Event}
use Rattle.fer_events.specs.declared.event.Effect.{Effect}
use Rattle.fer_events.specs.declared.event.Effect.TheVariants.{Bytes, Grow, Cut, SetAttr, PutName, ClearName, See, Nothing}
use Rattle.fer_events.specs.States.{State, at_place, effected, after_option, after_numbers, start_state}
use Rattle.fer_events.specs.Tables.{Trace}
use Rattle.value_coding.specs.WordMarks.{shows, is_mark}
use Rattle.value_coding.proofs.Places.{item-here, item-apart, length-at_place}

abbrev seen_in : State → ℕ → Bool
seen_in s word = unwrap_or (slice_get s.seen word) false

or-false : (b : Bool) → b ≡ (b || false)
or-false true = refl
or-false false = refl

or-true : (b : Bool) → true ≡ (b || true)
or-true true = refl
or-true false = refl

or-groups : (a b c : Bool) → ((a || b) || c) ≡ (a || (b || c))
or-groups true b c = refl
or-groups false b c = refl

see-step :
    (s : State) (word seen : ℕ) (b : Bool) → eqb seen word ≡ b → word < length s.seen
    → unwrap_or (slice_get (at_place (Some seen) (λ _. true) s.seen) word) false ≡ (seen_in s word || b)
see-step s word seen true e h = item-here (Some seen) (λ _. true) s.seen word false h e ∙ or-true (seen_in s word)
see-step s word seen false e h = item-apart (Some seen) (λ _. true) s.seen word false e ∙ or-false (seen_in s word)

effect-step : (s : State) (slot file : Option ℕ) (effect : Effect) (word : ℕ) → word < length s.seen → seen_in (effected s slot file effect) word ≡ (seen_in s word || shows word effect)
effect-step s slot file (Bytes at text) word h = or-false (seen_in s word)
effect-step s slot file (Grow at text size) word h = or-false (seen_in s word)
effect-step s slot file (Cut size) word h = or-false (seen_in s word)
effect-step s slot file (SetAttr key value) word h = or-false (seen_in s word)
effect-step s slot file PutName word h = or-false (seen_in s word)
effect-step s slot file ClearName word h = or-false (seen_in s word)
effect-step s slot file (See seen) word h = see-step s word seen (eqb seen word) refl h
effect-step s slot file Nothing word h = or-false (seen_in s word)

seen-kept : (s : State) (slot file : Option ℕ) (effect : Effect) → length (effected s slot file effect).seen ≡ length s.seen
seen-kept s slot file (Bytes at text) = refl
seen-kept s slot file (Grow at text size) = refl
seen-kept s slot file (Cut size) = refl
seen-kept s slot file (SetAttr key value) = refl
seen-kept s slot file PutName = refl
seen-kept s slot file ClearName = refl
seen-kept s slot file (See seen) = length-at_place (Some seen) (λ _. true) s.seen
seen-kept s slot file Nothing = refl

option-step : (s : State) (found : Option Event) (word : ℕ) → word < length s.seen → (seen_in (after_option s found) word ≡ (seen_in s word || option_map_or (λ e. shows word e.effect) found false)) × (word < length (after_option s found).seen)
option-step s None word h = (or-false (seen_in s word), h)
option-step s (Some e) word h = (effect-step s e.slot e.file e.effect word h, omega (arith, seen-kept s e.slot e.file e.effect))

seen-after : (events : List Event) (order : List ℕ) (s : State) (word : ℕ) → word < length s.seen → seen_in (after_numbers events s order) word ≡ (seen_in s word || list_any (is_mark events word) order)
seen-after events [] s word h = or-false (seen_in s word)
seen-after events (a ∷ order) s word h =
    let one = option-step s (slice_get events (a - 1)) word h in
    seen-after events order (after_option s (slice_get events (a - 1))) word one.1
    ∙ ap (λ (b : Bool). b || list_any (is_mark events word) order) one.0
    ∙ or-groups (seen_in s word) (is_mark events word a) (list_any (is_mark events word) order)

none-seen : (n word : ℕ) → unwrap_or (slice_get (replicate n false) word) false ≡ false
none-seen zero word = refl
none-seen (suc n) zero = refl
none-seen (suc n) (suc word) = none-seen n word

pub seen-by_marks : (t : Trace) (word : ℕ) (order : List ℕ) → word < length t.words → unwrap_or (slice_get (after_numbers t.events (start_state t) order).seen word) false ≡ list_any (is_mark t.events word) order
seen-by_marks t word order h =
    seen-after t.events order (start_state t) word (omega (arith, length-replicate {A = Bool} (length t.words) false))
    ∙ ap (λ (b : Bool). b || list_any (is_mark t.events word) order) (none-seen (length t.words) word)
