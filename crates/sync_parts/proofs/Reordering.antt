-- Two lists that have each number equally often are each other in another order, and so is what a test leaves of them.
use Rattle.std.proofs.Common.{◌≡◌, ◌≢◌, ℕ, ◌+◌, ◌<◌, inl, inr, List, [], ◌∷◌, ◌++◌, filter, eqb, cond, Contains, IsPermutation, Bool, true, false, refl, sym, ◌∙◌, ap, arith}
use Rattle.std.proofs.lemmas.Bool.{cases_eq}
use Rattle.std.proofs.lemmas.Bool.Decides.{nat_tests}
use Rattle.std.proofs.lemmas.List.Sorted.{IsPermutation-refl, IsPermutation-sym, IsPermutation-trans, IsPermutation-cons, IsPermutation-middle}
use Rattle.fer_events.proofs.Times.{times, times-permutation, times-append}
use Rattle.sync_parts.proofs.Members.{Contains-head_is, Contains-tail, Contains-cons_cases, Contains-nil, filter-yes, filter-no, test-cases}

split-at : (a : ℕ) (xs : List ℕ) → Contains xs a → (front : List ℕ) × (back : List ℕ) × (xs ≡ front ++ a ∷ back)
split-at a [] h = absurd (Contains-nil a h)
split-at a (x ∷ xs) h = elim (Contains-cons_cases x xs a h) [
  | inl e ↦ ([], xs, ap (λ y. y ∷ xs) e)
  | inr c ↦ let found = split-at a xs c in (x ∷ found.0, found.1, ap (λ l. x ∷ l) found.2)
]

counted-contains : (a : ℕ) (xs : List ℕ) → 0 < times a xs → Contains xs a
counted-contains a [] h = absurd (omega arith)
counted-contains a (x ∷ xs) h = elim (cases_eq x a) [
  | inl e ↦ Contains-head_is x xs a e
  | inr ne ↦ Contains-tail x xs a (counted-contains a xs (grind (arith, nat_tests)))
]

put-in : (x : ℕ) (xs ys front back : List ℕ) → ys ≡ front ++ x ∷ back → IsPermutation xs (front ++ back) → IsPermutation (x ∷ xs) ys
put-in x xs ys front back is h =
    rw is (IsPermutation-trans (x ∷ xs) (x ∷ (front ++ back)) (front ++ x ∷ back) (IsPermutation-cons x xs (front ++ back) h) (IsPermutation-sym (front ++ x ∷ back) (x ∷ (front ++ back)) (IsPermutation-middle front x back)))

taken-out : (x a : ℕ) (xs ys front back : List ℕ) → ys ≡ front ++ x ∷ back → times a (x ∷ xs) ≡ times a ys → times a xs ≡ times a (front ++ back)
taken-out x a xs ys front back is same =
    let whole : times a ys ≡ times a front + times a (x ∷ back) = ap (times a) is ∙ times-append a front (x ∷ back) in
    let parts = times-append a front back in
    grind (arith, nat_tests)

pub counted-permutation : (xs ys : List ℕ) → ((a : ℕ) → times a xs ≡ times a ys) → IsPermutation xs ys
counted-permutation [] [] same = IsPermutation-refl []
counted-permutation [] (y ∷ ys) same = let here = same y in absurd (grind (arith, nat_tests))
counted-permutation (x ∷ xs) ys same =
    let some : 0 < times x ys = (let here = same x in grind (arith, nat_tests)) in
    let at = split-at x ys (counted-contains x ys some) in
    put-in x xs ys at.0 at.1 at.2 (counted-permutation xs (at.0 ++ at.1) (λ a. taken-out x a xs ys at.0 at.1 at.2 (same a)))

times-filter_yes : (p : ℕ → Bool) (a : ℕ) (xs : List ℕ) → p a ≡ true → times a (filter p xs) ≡ times a xs
times-filter_yes p a [] t = refl
times-filter_yes p a (x ∷ xs) t = elim (test-cases (p x)) [
  | inl taken ↦ ap (times a) (filter-yes p x xs taken) ∙ ap (λ k. cond (eqb x a) (1 + k) k) (times-filter_yes p a xs t)
  | inr passed ↦
      let ne : x ≢ a = λ e. (let bad : true ≡ false = sym t ∙ sym (ap p e) ∙ passed in cc) in
      let more = times-filter_yes p a xs t in
      ap (times a) (filter-no p x xs passed) ∙ grind (arith, nat_tests)
]

times-filter_no : (p : ℕ → Bool) (a : ℕ) (xs : List ℕ) → p a ≡ false → times a (filter p xs) ≡ 0
times-filter_no p a [] t = refl
times-filter_no p a (x ∷ xs) t = elim (test-cases (p x)) [
  | inl taken ↦
      let ne : x ≢ a = λ e. (let bad : true ≡ false = sym taken ∙ ap p e ∙ t in cc) in
      let more = times-filter_no p a xs t in
      ap (times a) (filter-yes p x xs taken) ∙ grind (arith, nat_tests)
  | inr passed ↦ ap (times a) (filter-no p x xs passed) ∙ times-filter_no p a xs t
]

pub IsPermutation-filter : (p : ℕ → Bool) (xs ys : List ℕ) → IsPermutation xs ys → IsPermutation (filter p xs) (filter p ys)
IsPermutation-filter p xs ys h = counted-permutation (filter p xs) (filter p ys) (λ a. elim (test-cases (p a)) [
  | inl t ↦ times-filter_yes p a xs t ∙ sym (times-permutation a xs ys h) ∙ sym (times-filter_yes p a ys t)
  | inr f ↦ times-filter_no p a xs f ∙ sym (times-filter_no p a ys f)
])
