-- General: what a list contains. These lemmas are on all lists, and other crates may cite them.
use Rattle.std.proofs.Common.{◌≡◌, zero, suc, ◌⊎◌, inl, inr, List, [], ◌∷◌, ◌++◌, Bool, true, false, map, filter, Contains, refl, sym, ◌∙◌, ap, arith, cond}
use Rattle.std.proofs.lemmas.List.Elements.{Contains-append_left, Contains-append_right, Contains-append_cases}

pub Contains-head : {A : Type 0} (x : A) (xs : List A) → Contains (x ∷ xs) x
Contains-head x xs = (0, omega arith, refl)

pub Contains-head_is : {A : Type 0} (x : A) (xs : List A) (a : A) → x ≡ a → Contains (x ∷ xs) a
Contains-head_is x xs a e = (0, omega arith, e)

pub Contains-tail : {A : Type 0} (x : A) (xs : List A) (a : A) → Contains xs a → Contains (x ∷ xs) a
Contains-tail x xs a (k, l, e) = (suc k, omega arith, e)

pub Contains-cons_cases : {A : Type 0} (x : A) (xs : List A) (a : A) → Contains (x ∷ xs) a → (x ≡ a) ⊎ Contains xs a
Contains-cons_cases x xs a (zero, l, e) = inl e
Contains-cons_cases x xs a (suc k, l, e) = inr (k, omega arith, e)

pub Contains-nil : {A : Type 0} (a : A) → Contains [] a → ⊥
Contains-nil a (k, l, e) = omega arith

pub Contains-map : {A B : Type 0} (f : A → B) (xs : List A) (a : A) → Contains xs a → Contains (map f xs) (f a)
Contains-map f [] a h = absurd (Contains-nil a h)
Contains-map f (x ∷ xs) a h = elim (Contains-cons_cases x xs a h) [
  | inl e ↦ Contains-head_is (f x) (map f xs) (f a) (ap f e)
  | inr c ↦ Contains-tail (f x) (map f xs) (f a) (Contains-map f xs a c)
]

pub Contains-from_map : {A B : Type 0} (f : A → B) (xs : List A) (b : B) → Contains (map f xs) b → (a : A) × Contains xs a × (f a ≡ b)
Contains-from_map f [] b h = absurd (Contains-nil b h)
Contains-from_map f (x ∷ xs) b h = elim (Contains-cons_cases (f x) (map f xs) b h) [
  | inl e ↦ (x, Contains-head x xs, e)
  | inr c ↦ let found = Contains-from_map f xs b c in (found.0, Contains-tail x xs found.0 found.1, found.2)
]

pub Contains-filter : {A : Type 0} (p : A → Bool) (xs : List A) (a : A) → Contains xs a → p a ≡ true → Contains (filter p xs) a
Contains-filter p [] a h t = absurd (Contains-nil a h)
Contains-filter p (x ∷ xs) a h t = elim (Contains-cons_cases x xs a h) [
  | inl e ↦ let px : p x ≡ true = ap p e ∙ t in rw px (Contains-head_is x (filter p xs) a e)
  | inr c ↦ let later = Contains-filter p xs a c t in
      elim (p x) as (λ b. Contains (cond b (x ∷ filter p xs) (filter p xs)) a) [
        | true ↦ Contains-tail x (filter p xs) a later
        | false ↦ later
      ]
]

pub Contains-from_filter : {A : Type 0} (p : A → Bool) (xs : List A) (a : A) → Contains (filter p xs) a → Contains xs a × (p a ≡ true)
Contains-from_filter p [] a h = absurd (Contains-nil a h)
Contains-from_filter p (x ∷ xs) a h =
    let split : (b : Bool) → p x ≡ b → Contains (cond b (x ∷ filter p xs) (filter p xs)) a → Contains (x ∷ xs) a × (p a ≡ true) =
    λ b. elim b as (λ v. p x ≡ v → Contains (cond v (x ∷ filter p xs) (filter p xs)) a → Contains (x ∷ xs) a × (p a ≡ true)) [
      | true ↦ λ e c. elim (Contains-cons_cases x (filter p xs) a c) [
        | inl same ↦ (Contains-head_is x xs a same, ap p (sym same) ∙ e)
        | inr later ↦ let in_rest = Contains-from_filter p xs a later in (Contains-tail x xs a in_rest.0, in_rest.1)
      ]
      | false ↦ λ e c. let in_rest = Contains-from_filter p xs a c in (Contains-tail x xs a in_rest.0, in_rest.1)
    ] in
    split (p x) refl h

-- what each list of two holds, their joins hold
pub Contains-joins : {A : Type 0} (xs ys zs : List A) → ((a : A) → Contains xs a → Contains ys a) → (a : A) → Contains (xs ++ zs) a → Contains (ys ++ zs) a
Contains-joins xs ys zs within a h = elim (Contains-append_cases xs zs a h) [
  | inl front ↦ Contains-append_left ys zs a (within a front)
  | inr back ↦ Contains-append_right ys zs a back
]
