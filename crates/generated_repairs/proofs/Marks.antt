-- A word is seen by one call of a generated body: by the mark that has the word.
use Rattle.std.proofs.Common.{◌≡◌, ℕ, ◌<◌, ◌^◌, Bool, true, false, List, [], ◌∷◌, get_or, bytes_eq, Option, Some, None, slice_get, refl, sym, ◌∙◌, ap}
use Rattle.std.specs.Prelude.{decimal, unwrap_or}
use Rattle.std.proofs.lemmas.Bool.{true≢false}
use Rattle.std.proofs.lemmas.Fmt.{decimal_injective}
use Rattle.std.proofs.lemmas.List.Quantifiers.{position-Some}
use Rattle.std.proofs.lemmas.Slice.Eq.{bytes_eq-Decides}
use Rattle.litmus_syntax.specs.declared.call.Call.{Call}
use Rattle.fer_events.specs.declared.event.Event.{Event}
use Rattle.fer_events.specs.declared.event.Effect.TheVariants.{PutName, See}
use Rattle.fer_events.specs.Truth.{item_at, text_number}
use Rattle.call_events.specs.declared.files.Files.{Files}
use Rattle.model_library.specs.Generated.{numbered, generated_call}
use Rattle.generated_repairs.proofs.Bodies.{call_has, change_has}
use Rattle.generated_repairs.proofs.Calls.{Tells}

same_rest : (x : ℕ) (xs ys : List ℕ) → x ∷ xs ≡ x ∷ ys → xs ≡ ys
same_rest x xs ys h = cc

same_word : (v w : ℕ) → See v ≡ See w → v ≡ w
same_word v w h = cc

-- words that have one number are one word
one_word : (table : List (List ℕ)) (a b : List ℕ) (w : ℕ) → text_number table a ≡ Some w → text_number table b ≡ Some w → a ≡ b
one_word table a b w first second =
    let is_a : bytes_eq (get_or table w []) a ≡ true = (position-Some (λ entry. bytes_eq entry a) table w [] first).1 in
    let is_b : bytes_eq (get_or table w []) b ≡ true = (position-Some (λ entry. bytes_eq entry b) table w [] second).1 in
    sym ((bytes_eq-Decides (get_or table w []) a).0 is_a) ∙ (bytes_eq-Decides (get_or table w []) b).0 is_b

-- marks whose words have one number are one mark
pub one_mark : (table : List (List ℕ)) (i j w : ℕ) → i < 2 ^ 64 → j < 2 ^ 64 → text_number table (numbered 109 i) ≡ Some w → text_number table (numbered 109 j) ≡ Some w → i ≡ j
one_mark table i j w small_i small_j first second =
    decimal_injective i j small_i small_j (same_rest 109 (decimal i) (decimal j) (one_word table (numbered 109 i) (numbered 109 j) w first second))

-- a generated call whose event sees a word is the mark of its own number
pub sees_own : (t : Files) (i word w : ℕ) (e : Event) → Tells t (generated_call i word) e → e.effect ≡ See w → text_number t.words (numbered 109 i) ≡ Some w
sees_own t i word w e =
    let P : Call → Type 0 = λ c. Tells t c e → e.effect ≡ See w → text_number t.words (numbered 109 i) ≡ Some w in
    call_has P i word
    (λ told h. told.2 ∙ ap Some (same_word told.0 w (sym told.1 ∙ h)))
    (λ told h. absurd (let bad : PutName ≡ See w = sym told.3 ∙ h in cc))
    (change_has P i word (λ path at b told h. absurd (told w h)) (λ path key value told h. absurd (told w h)) (λ path size told h. absurd (told w h)) (λ from to told h. absurd (told w h)))

-- a word that was seen has a number
pub seen_number : (seen : List Bool) (o : Option ℕ) → unwrap_or (item_at seen o) false ≡ true → (w : ℕ) × (o ≡ Some w) × (slice_get seen w ≡ Some true)
seen_number seen None h = absurd (true≢false (sym h))
seen_number seen (Some w) h = (w, refl, truly (slice_get seen w) h)
  where
    truly : (o : Option Bool) → unwrap_or o false ≡ true → o ≡ Some true
    truly None h = absurd (true≢false (sym h))
    truly (Some b) h = ap Some h
