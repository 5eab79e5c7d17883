-- One item more of a list that is gone through: what is filtered, folded and mapped.
use Rattle.std.proofs.Common.{◌≡◌, ℕ, ◌+◌, ◌<◌, Bool, true, false, cond, List, [], ◌∷◌, ◌++◌, length, take, fold, get_or, Option, None, refl, sym, ◌∙◌, ap, arith}
use Rattle.std.specs.Prelude.{filter}
use Rattle.std.specs.List.{range_with_len, flat_map}
use Rattle.std.proofs.lemmas.List.Elements.{filter_more, filter-append}
use Rattle.std.proofs.lemmas.List.{flat_map_more}
use Rattle.std.proofs.lemmas.List.Sums.{fold-append}
use Rattle.fer_events.proofs.Ranges.{range_split}
use Rattle.fer_events.specs.declared.event.Event.{Event}
use Rattle.fer_events.specs.declared.event.Effect.{Effect}
use Rattle.fer_events.specs.declared.event.Effect.TheVariants.{Bytes, Grow, Cut, SetAttr, PutName, ClearName, See, Nothing}
use Rattle.fer_events.specs.States.{State, effected, after_event}
use Rattle.fer_events.proofs.AtPlace.{length-at_place}
use Rattle.sync_sites.specs.Passing.{held_of, held_after}

-- a fold over what passes a test, with one item more
pub fold_filter_more : {A B : Type 0} (f : B → A → B) (p : A → Bool) (b : B) (xs : List A) (i : ℕ) (d : A) → i < length xs
    → fold f b (filter p (take (i + 1) xs)) ≡ cond (p (get_or xs i d)) (f (fold f b (filter p (take i xs))) (get_or xs i d)) (fold f b (filter p (take i xs)))
fold_filter_more f p b xs i d there =
    ap (fold f b) (filter_more p xs i d there) ∙ fold-append f b (filter p (take i xs)) (cond (p (get_or xs i d)) (get_or xs i d ∷ []) []) ∙ picked (p (get_or xs i d))
  where
    picked : (test : Bool) → fold f (fold f b (filter p (take i xs))) (cond test (get_or xs i d ∷ []) []) ≡ cond test (f (fold f b (filter p (take i xs))) (get_or xs i d)) (fold f b (filter p (take i xs)))
    picked true = refl
    picked false = refl

pub length-held_of : (held : List (Option ℕ)) (slot file : Option ℕ) (e : Effect) → length (held_of held slot file e) ≡ length held
length-held_of held slot file PutName = length-at_place slot (λ _. file) held
length-held_of held slot file ClearName = length-at_place slot (λ _. None) held
length-held_of held slot file (Bytes at text) = refl
length-held_of held slot file (Grow at text size) = refl
length-held_of held slot file (Cut size) = refl
length-held_of held slot file (SetAttr key value) = refl
length-held_of held slot file (See word) = refl
length-held_of held slot file Nothing = refl

slots_of_effect : (s : State) (slot file : Option ℕ) (e : Effect) → (effected s slot file e).slots ≡ held_of s.slots slot file e
slots_of_effect s slot file PutName = refl
slots_of_effect s slot file ClearName = refl
slots_of_effect s slot file (Bytes at text) = refl
slots_of_effect s slot file (Grow at text size) = refl
slots_of_effect s slot file (Cut size) = refl
slots_of_effect s slot file (SetAttr key value) = refl
slots_of_effect s slot file (See word) = refl
slots_of_effect s slot file Nothing = refl

-- the slots of a state change by themselves
pub slots_fold : (s : State) (events : List Event) → (fold after_event s events).slots ≡ fold held_after s.slots events
slots_fold s [] = refl
slots_fold s (e ∷ events) = slots_fold (after_event s e) events ∙ ap (λ (h : List (Option ℕ)). fold held_after h events) (slots_of_effect s e.slot e.file e.effect)

pub length-held_fold : (held : List (Option ℕ)) (events : List Event) → length (fold held_after held events) ≡ length held
length-held_fold held [] = refl
length-held_fold held (e ∷ events) = length-held_fold (held_after held e) events ∙ length-held_of held e.slot e.file e.effect

-- one number more of a range
pub range_more : (a n : ℕ) → range_with_len a (n + 1) ≡ range_with_len a n ++ (a + n) ∷ []
range_more a n = range_split a n 1

-- what a loop over numbers appends, with one number more
pub appended_more : {X : Type 0} (f : ℕ → List X) (n : ℕ) (first before after : List X) → before ≡ first ++ flat_map f (range_with_len 0 n) → after ≡ before ++ f n
    → after ≡ first ++ flat_map f (range_with_len 0 (n + 1))
appended_more f n first before after so_far is =
    let e : 0 + n ≡ n = omega arith in
    is ∙ ap (λ (xs : List _). xs ++ f n) so_far ∙ flat_map_more f first (range_with_len 0 n) n
    ∙ ap (λ (k : ℕ). first ++ flat_map f (range_with_len 0 n ++ k ∷ [])) (sym e)
    ∙ ap (λ (ks : List ℕ). first ++ flat_map f ks) (sym (range_more 0 n))

-- a fold over those of the first numbers that pass a test, with one number more
pub fold_numbers_more : {B : Type 0} (f : B → ℕ → B) (p : ℕ → Bool) (b : B) (n : ℕ)
    → fold f b (filter p (range_with_len 0 (n + 1))) ≡ cond (p n) (f (fold f b (filter p (range_with_len 0 n))) n) (fold f b (filter p (range_with_len 0 n)))
fold_numbers_more f p b n =
    let e : 0 + n ≡ n = omega arith in
    ap (λ (ks : List ℕ). fold f b (filter p ks)) (range_more 0 n)
    ∙ ap (λ (k : ℕ). fold f b (filter p (range_with_len 0 n ++ k ∷ []))) e
    ∙ ap (fold f b) (filter-append p (range_with_len 0 n) (n ∷ []))
    ∙ fold-append f b (filter p (range_with_len 0 n)) (cond (p n) (n ∷ []) [])
    ∙ picked (p n)
  where
    picked : (test : Bool) → fold f (fold f b (filter p (range_with_len 0 n))) (cond test (n ∷ []) []) ≡ cond test (f (fold f b (filter p (range_with_len 0 n))) n) (fold f b (filter p (range_with_len 0 n)))
    picked true = refl
    picked false = refl
