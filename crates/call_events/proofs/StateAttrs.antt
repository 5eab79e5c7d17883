-- What an attribute's event leaves of a state.
use Rattle.std.proofs.Common.{◌≡◌, ◌≢◌, ℕ, zero, suc, ◌+◌, ◌<◌, Bool, true, false, ◌&&◌, ◌==◌, List, [], ◌∷◌, length, map, Option, Some, None, ltb, refl, ◌∙◌, ap, inl, inr, arith}
use Rattle.std.specs.Prelude.{if◌then◌else◌}
use Rattle.std.specs.Option.{option_map}
use Rattle.std.specs.List.{position, position_or_len, range_with_len}
use Rattle.std.proofs.lemmas.Bool.{cases_Bool}
use Rattle.std.proofs.lemmas.Bool.Decides.{nat_tests}
use Rattle.fer_events.specs.declared.tables.AttrValue.{AttrValue}
use Rattle.fer_events.specs.States.{value_set, at_place}
use Rattle.call_events.specs.Changes.{with_value, value_place}
use Rattle.fer_events.proofs.GeneralPlaces.{passes_within}
use Rattle.call_events.proofs.Whole.{place_is}
use Rattle.call_events.proofs.Frames.{range_place}

abbrev is_of : ℕ → ℕ → AttrValue → Bool
is_of file key a = (a.file == file) && (a.key == key)

-- the place of the first that passes, item by item
pub first_place : {X : Type 0} (p : X → Bool) (x : X) (xs : List X) → p x ≡ true → position p (x ∷ xs) ≡ Some zero
first_place p x xs h =
    let here : position_or_len p (x ∷ xs) ≡ zero = rw h refl in
    place_is p (x ∷ xs) (passes_within p (x ∷ xs) zero x (omega arith) h) ∙ ap Some here

pub later_place : {X : Type 0} (p : X → Bool) (x : X) (xs : List X) → p x ≡ false → position p (x ∷ xs) ≡ option_map (λ k. suc k) (position p xs)
later_place p x xs h = rw h (elim (cases_Bool (ltb (position_or_len p xs) (length xs))) [
  | inl found ↦ let more : ltb (1 + position_or_len p xs) (length (x ∷ xs)) ≡ true = grind (arith, nat_tests) in rw (found, more) (ap Some (omega arith))
  | inr none ↦ let more : ltb (1 + position_or_len p xs) (length (x ∷ xs)) ≡ false = grind (arith, nat_tests) in rw (none, more) refl
])

with_later : (a v : AttrValue) (attrs : List AttrValue) (o : Option ℕ) → with_value (a ∷ attrs) v (option_map (λ k. suc k) o) ≡ a ∷ with_value attrs v o
with_later a v attrs None = refl
with_later a v attrs (Some k) = refl

same_of : (a v : AttrValue) (file key : ℕ) → is_of v.file v.key a ≡ true → is_of file key a ≡ is_of file key v
same_of a v file key h = grind (arith, nat_tests)

-- the value of a key of a file behind a new value of one
value_after : (attrs : List AttrValue) (v : AttrValue) (file key : ℕ)
    → value_set (with_value attrs v (value_place attrs v.file v.key)) file key ≡ (if is_of file key v then Some v.value else value_set attrs file key)
value_after [] v file key = elim (cases_Bool (is_of file key v)) [ inl own ↦ rw own refl | inr other ↦ rw other refl ]
value_after (a ∷ attrs) v file key = elim (cases_Bool (is_of v.file v.key a)) [
  | inl here ↦
      let first : with_value (a ∷ attrs) v (value_place (a ∷ attrs) v.file v.key) ≡ v ∷ attrs = ap (with_value (a ∷ attrs) v) (first_place (is_of v.file v.key) a attrs here) in
      ap (λ (l : List AttrValue). value_set l file key) first
      ∙ elim (cases_Bool (is_of file key v)) [
        | inl own ↦ rw own refl
        | inr other ↦ let not_here : is_of file key a ≡ false = same_of a v file key here ∙ other in rw (other, not_here) refl
      ]
  | inr later ↦
      let rest : with_value (a ∷ attrs) v (value_place (a ∷ attrs) v.file v.key) ≡ a ∷ with_value attrs v (value_place attrs v.file v.key) =
      ap (with_value (a ∷ attrs) v) (later_place (is_of v.file v.key) a attrs later) ∙ with_later a v attrs (value_place attrs v.file v.key) in
      ap (λ (l : List AttrValue). value_set l file key) rest
      ∙ elim (cases_Bool (is_of file key a)) [
        | inl this ↦ let not_own : is_of file key v ≡ false = apart a v file key later this in rw (this, not_own) refl
        | inr other ↦ rw other (value_after attrs v file key)
      ]
]
  where
    apart : (a v : AttrValue) (file key : ℕ) → is_of v.file v.key a ≡ false → is_of file key a ≡ true → is_of file key v ≡ false
    apart a v file key h l = grind (arith, nat_tests)

map_same : {X Y : Type 0} (f g : X → Y) (xs : List X) → ((x : X) → f x ≡ g x) → map f xs ≡ map g xs
map_same f g [] same = refl
map_same f g (x ∷ xs) same = ap (λ (y : _). y ∷ map f xs) (same x) ∙ ap (λ (ys : List _). g x ∷ ys) (map_same f g xs same)

abbrev pub values_of : ℕ → ℕ → List AttrValue → List (List (Option ℕ))
values_of files keys attrs = map (λ key. map (λ file. value_set attrs file key) (range_with_len 0 files)) (range_with_len 0 keys)

-- the values of all keys and files behind a new value of one
pub values_after : (files keys : ℕ) (attrs : List AttrValue) (v : AttrValue) → v.file < files → v.key < keys
    → values_of files keys (with_value attrs v (value_place attrs v.file v.key)) ≡ at_place (Some v.key) (at_place (Some v.file) (λ _. Some v.value)) (values_of files keys attrs)
values_after files keys attrs v file_there key_there =
    let new : List AttrValue = with_value attrs v (value_place attrs v.file v.key) in
    range_place (λ key. map (λ file. value_set new file key) (range_with_len 0 files)) (λ key. map (λ file. value_set attrs file key) (range_with_len 0 files)) (at_place (Some v.file) (λ _. Some v.value)) 0 keys v.key key_there
    (range_place (λ file. value_set new file (0 + v.key)) (λ file. value_set attrs file (0 + v.key)) (λ _. Some v.value) 0 files v.file file_there
    (value_after attrs v (0 + v.file) (0 + v.key) ∙ (let own : is_of (0 + v.file) (0 + v.key) v ≡ true = grind (arith, nat_tests) in rw own refl))
    (λ file other. value_after attrs v file (0 + v.key) ∙ (let not_own : is_of file (0 + v.key) v ≡ false = grind (arith, nat_tests) in rw not_own refl)))
    (λ key other. row_same files attrs v key other)
  where
    row_same : (files : ℕ) (attrs : List AttrValue) (v : AttrValue) (key : ℕ) → key ≢ 0 + v.key
        → map (λ file. value_set (with_value attrs v (value_place attrs v.file v.key)) file key) (range_with_len 0 files) ≡ map (λ file. value_set attrs file key) (range_with_len 0 files)
    row_same files attrs v key other =
        map_same (λ file. value_set (with_value attrs v (value_place attrs v.file v.key)) file key) (λ file. value_set attrs file key) (range_with_len 0 files)
        (λ file. value_after attrs v file key ∙ (let not_own : is_of file key v ≡ false = grind (arith, nat_tests) in rw not_own refl))
