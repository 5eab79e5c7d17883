-- General lemmas: what passes a test, and where the only item that passes one is found; so where a slot's path is found.
use Rattle.std.proofs.Common.{◌≡◌, ◌≢◌, ℕ, ◌<◌, inl, inr, Bool, true, false, List, [], ◌∷◌, ◌++◌, length, get_or, Option, Some, None, is_some, All, refl, sym, ◌∙◌, ap, arith}
use Rattle.std.specs.Prelude.{filter, slice_get, unwrap_or, position, bytes_eq, ◌==◌}
use Rattle.std.specs.List.{AllPairs}
use Rattle.std.proofs.lemmas.Bool.{cases_Bool, cases_lt, and_parts}
use Rattle.std.proofs.lemmas.Bool.Decides.{nat_tests}
use Rattle.std.proofs.lemmas.List.Elements.{All-nil, All-cons, All-head, All-tail}
use Rattle.std.proofs.lemmas.List.Quantifiers.{position-Some}
use Rattle.std.proofs.lemmas.Option.{slice_get-get_or, slice_get_within, get_or_from_slice_get, unwrap_or-slice_get}
use Rattle.fer_events.specs.declared.tables.SlotName.{SlotName}
use Rattle.fer_events.specs.Paths.{same_path, slot_path, put_front, split_last, directory_number, same_entry, entry_number, path_slot}
use Rattle.fer_events.proofs.GeneralPlaces.{fresh}
use Rattle.call_events.proofs.Whole.{bytes_eq-refl, same_entry-refl}

-- what passes a test whole, and what doesn't pass it at all
pub all_pass : {X : Type 0} (p : X → Bool) (xs : List X) → All (λ x. p x ≡ true) xs → filter p xs ≡ xs
all_pass p [] all = refl
all_pass p (x ∷ xs) all = rw (All-head (λ x. p x ≡ true) x xs all) (ap (λ (l : List _). x ∷ l) (all_pass p xs (All-tail (λ x. p x ≡ true) x xs all)))

pub none_pass : {X : Type 0} (p : X → Bool) (xs : List X) → All (λ x. p x ≡ false) xs → filter p xs ≡ []
none_pass p [] all = refl
none_pass p (x ∷ xs) all = rw (All-head (λ x. p x ≡ false) x xs all) (none_pass p xs (All-tail (λ x. p x ≡ false) x xs all))

pub those_that_pass : {X : Type 0} (p : X → Bool) (xs : List X) → All (λ x. p x ≡ true) (filter p xs)
those_that_pass p [] = All-nil (λ x. p x ≡ true)
those_that_pass p (x ∷ xs) = elim (cases_Bool (p x)) [
  | inl here ↦ rw here (All-cons (λ x. p x ≡ true) x (filter p xs) here (those_that_pass p xs))
  | inr away ↦ rw away (those_that_pass p xs)
]

-- the only item that passes a test is found at its place
pub found_once : {X : Type 0} (p : X → Bool) (xs : List X) (k : ℕ) (x : X) → slice_get xs k ≡ Some x → p x ≡ true → ((y : X) → p y ≡ true → y ≡ x) → AllPairs (λ a b. a ≢ b) xs → position p xs ≡ Some k
found_once {X} p xs k x at passes only once = found (position p xs) refl
  where
    there : k < length xs
    there = slice_get_within xs k x at

    here : get_or xs k x ≡ x
    here = get_or_from_slice_get xs k x x at

    found : (o : Option ℕ) → position p xs ≡ o → position p xs ≡ Some k
    found None is = absurd (fresh p xs (ap is_some is) k x there (ap p here ∙ passes))
    found (Some j) is =
        let first = position-Some p xs j x is in
        let same : get_or xs j x ≡ get_or xs k x = only (get_or xs j x) first.1 ∙ sym here in
        elim (cases_lt j k) [
          | inl less ↦ absurd (once j k x less there same)
          | inr up ↦ elim (cases_lt k j) [
            | inl less ↦ absurd (once k j x less first.0 (sym same))
            | inr down ↦ let e : j ≡ k = omega (arith, up, down) in is ∙ ap (λ (i : ℕ). Some i) e
          ]
        ]

same_number : (m n : ℕ) → (m == n) ≡ true → m ≡ n
same_number m n h = grind (arith, nat_tests)

same_bytes : (xs ys : List ℕ) → bytes_eq xs ys ≡ true → xs ≡ ys
same_bytes [] [] h = refl
same_bytes [] (y ∷ ys) h = cc
same_bytes (x ∷ xs) [] h = cc
same_bytes (x ∷ xs) (y ∷ ys) h =
    let both = and_parts (x == y) (bytes_eq xs ys) h in
    let first : x ≡ y = same_number x y both.0 in
    let rest : xs ≡ ys = same_bytes xs ys both.1 in
    cc

same_paths : (xs ys : List (List ℕ)) → same_path xs ys ≡ true → xs ≡ ys
same_paths [] [] h = refl
same_paths [] (y ∷ ys) h = cc
same_paths (x ∷ xs) [] h = cc
same_paths (x ∷ xs) (y ∷ ys) h =
    let both = and_parts (bytes_eq x y) (same_path xs ys) h in
    let first : x ≡ y = same_bytes x y both.0 in
    let rest : xs ≡ ys = same_paths xs ys both.1 in
    cc

pub path_itself : (path : List (List ℕ)) → same_path path path ≡ true
path_itself [] = refl
path_itself (x ∷ xs) = rw (bytes_eq-refl x, path_itself xs) refl

same_names : (a b : SlotName) → same_entry a b ≡ true → a ≡ b
same_names a b h =
    let both = and_parts (a.dir == b.dir) (bytes_eq a.name b.name) h in
    ap (λ (d : ℕ). record { dir = d; name = a.name }) (same_number a.dir b.dir both.0) ∙ ap (λ (n : List ℕ). record { dir = b.dir; name = n }) (same_bytes a.name b.name both.1)

last_split : (front : List (List ℕ)) (last : List ℕ) → split_last (front ++ last ∷ []) ≡ Some (front, last)
last_split [] last = refl
last_split (x ∷ front) last = ap (put_front x) (last_split front last)

-- the path of a slot names this slot
pub own_slot : (dirs : List (List (List ℕ))) (slots : List SlotName) (slot : ℕ) (name : SlotName) → AllPairs (λ a b. a ≢ b) dirs → AllPairs (λ a b. a ≢ b) slots → name.dir < length dirs → slice_get slots slot ≡ Some name
    → path_slot dirs slots (slot_path dirs name) ≡ Some slot
own_slot dirs slots slot name dirs_once slots_once there at =
    let front : List (List ℕ) = unwrap_or (slice_get dirs name.dir) [] in
    let dir_is : slice_get dirs name.dir ≡ Some front = slice_get-get_or dirs name.dir [] there ∙ ap (λ (d : List (List ℕ)). Some d) (sym (unwrap_or-slice_get dirs name.dir [])) in
    let dir : directory_number dirs front ≡ Some name.dir = found_once (λ d. same_path d front) dirs name.dir front dir_is (path_itself front) (λ d h. same_paths d front h) dirs_once in
    let entry : entry_number slots name ≡ Some slot = found_once (λ s. same_entry s name) slots slot name at (same_entry-refl name) (λ s h. same_names s name h) slots_once in
    rw (last_split front name.name, dir) entry
