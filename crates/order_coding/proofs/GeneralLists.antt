-- General: what stands in a range, and what is true of each element of joined lists. Other crates may cite these lemmas.
use Rattle.std.proofs.Common.{◌≡◌, ◌≢◌, ℕ, zero, suc, ◌+◌, ◌-◌, ◌<◌, ◌≤◌, ◌⊎◌, inl, inr, List, [], ◌∷◌, ◌++◌, Contains, Bool, true, eqb, false, refl, sym, ◌∙◌, ap, arith}
use Rattle.std.specs.List.{All, Any, flat_map, range_with_len}
use Rattle.std.specs.List.Sorted.{IsStrictlyIncreasing}
use Rattle.std.proofs.lemmas.Bool.Decides.{nat_tests}
use Rattle.std.proofs.lemmas.List.Elements.{All-append, All-nil, All-weaker, All-contains, All-contains_itself, Contains-append_left, Contains-append_right}
use Rattle.std.proofs.lemmas.List.Concat.{flat_map-cons}
use Rattle.std.proofs.lemmas.List.FromFn.{length-range_with_len, get_or-range_with_len}
use Rattle.clause_store.proofs.GeneralLists.{Contains-head_is, Contains-tail, Contains-cons_cases, Contains-nil}

pub All-from_contains : {A : Type 0} (P : A → Type 0) (xs : List A) → ((x : A) → Contains xs x → P x) → All P xs
All-from_contains P xs h = All-weaker (Contains xs) P h xs (All-contains_itself xs)

pub All-left : {A : Type 0} (P : A → Type 0) (xs ys : List A) → All P (xs ++ ys) → All P xs
All-left P xs ys all = All-from_contains P xs (λ x h. All-contains P (xs ++ ys) x all (Contains-append_left xs ys x h))

pub All-right : {A : Type 0} (P : A → Type 0) (xs ys : List A) → All P (xs ++ ys) → All P ys
All-right P xs ys all = All-from_contains P ys (λ x h. All-contains P (xs ++ ys) x all (Contains-append_right xs ys x h))

pub All-flat_map :
    {A B : Type 0} (P : B → Type 0) (f : A → List B) (xs : List A) → ((x : A) → Contains xs x → All P (f x))
    → All P (flat_map f xs)
All-flat_map P f [] h = All-nil P
All-flat_map P f (x ∷ xs) h =
    rw (flat_map-cons f x xs)
    (All-append P (f x) (flat_map f xs) (h x (Contains-head_is x xs x refl)) (All-flat_map P f xs (λ y in_rest. h y (Contains-tail x xs y in_rest))))

pub All-from_flat_map :
    {A B : Type 0} (P : B → Type 0) (f : A → List B) (xs : List A) (a : A) → All P (flat_map f xs)
    → Contains xs a → All P (f a)
All-from_flat_map P f [] a all h = absurd (Contains-nil a h)
All-from_flat_map P f (x ∷ xs) a all h =
    let both = rw (flat_map-cons f x xs) at all in
    elim (Contains-cons_cases x xs a h) [
      | inl e ↦ rw (← e) (All-left P (f x) (flat_map f xs) both)
      | inr later ↦ All-from_flat_map P f xs a (All-right P (f x) (flat_map f xs) both) later
    ]

pub order-of : (x y : ℕ) → (x < y) ⊎ ((x ≡ y) ⊎ (y < x))
order-of x y = grind arith

pub eq-no : (a b : ℕ) → a ≢ b → eqb a b ≡ false
eq-no a b ne = grind (arith, nat_tests)

pub range_contains : (low n a : ℕ) → low ≤ a → a < low + n → Contains (range_with_len low n) a
range_contains low n a above below =
    (a - low, omega (arith, length-range_with_len low n), get_or-range_with_len low n (a - low) a (omega arith) ∙ omega arith)

pub range_within : (low n a : ℕ) → Contains (range_with_len low n) a → (low ≤ a) × (a < low + n)
range_within low n a (k, l, e) =
    let short : k < n = omega (arith, length-range_with_len low n) in
    let is : low + k ≡ a = sym (get_or-range_with_len low n k a short) ∙ e in (omega arith, omega arith)

pub range_more : (low n : ℕ) → range_with_len low (n + 1) ≡ range_with_len low n ++ (low + n) ∷ []
range_more low zero = let e : low ≡ low + zero = omega arith in ap (λ k. k ∷ []) e
range_more low (suc n) =
    let e : low + 1 + n ≡ low + suc n = omega arith in
    let longer : suc n + 1 ≡ suc (n + 1) = omega arith in
    ap (range_with_len low) longer
    ∙ ap (λ xs. low ∷ xs) (range_more (low + 1) n ∙ ap (λ k. range_with_len (low + 1) n ++ k ∷ []) e)

pub bit_cases : (b : Bool) → (b ≡ true) ⊎ (b ≡ false)
bit_cases true = inl refl
bit_cases false = inr refl

pub true_false : {A : Type 0} (b : Bool) → b ≡ true → b ≡ false → A
true_false b t f = let bad : true ≡ false = sym t ∙ f in cc

pub Any-here : {A : Type 0} (P : A → Type 0) (x : A) (xs : List A) → P x → Any P (x ∷ xs)
Any-here P x xs h = (0, x, omega arith, refl, h)

pub Any-later : {A : Type 0} (P : A → Type 0) (x : A) (xs : List A) → Any P xs → Any P (x ∷ xs)
Any-later P x xs (k, y, l, e, h) = (suc k, y, omega arith, e, h)

pub Any-cases : {A : Type 0} (P : A → Type 0) (x : A) (xs : List A) → Any P (x ∷ xs) → P x ⊎ Any P xs
Any-cases P x xs (zero, y, l, e, h) = inl (rw e h)
Any-cases P x xs (suc k, y, l, e, h) = inr (k, y, omega arith, e, h)

pub Any-nil : {A : Type 0} (P : A → Type 0) → Any P [] → ⊥
Any-nil P (k, y, l, e, h) = omega arith

pub numbers-increase : (low n : ℕ) → IsStrictlyIncreasing (range_with_len low n)
numbers-increase low n = λ k h.
    let long = length-range_with_len low n in
    omega (arith, get_or-range_with_len low n k 0 (omega arith), get_or-range_with_len low n (k + 1) 0 (omega arith))
