-- How often a number stands in a list: permutations are compared by that.
use Rattle.std.proofs.Common.{◌≡◌, ℕ, zero, suc, ◌+◌, ◌<◌, ◌≤◌, ◌⊎◌, inl, inr, List, [], ◌∷◌, ◌++◌, eqb, cond, Contains, IsPermutation, refl, sym, ◌∙◌, arith}
use Rattle.std.specs.List.{range_with_len}
use Rattle.std.proofs.lemmas.Bool.{cases_eq}
use Rattle.std.proofs.lemmas.Bool.Decides.{nat_tests}
use Rattle.std.proofs.lemmas.List.Recursion.{is_count_by}
use Rattle.std.proofs.lemmas.List.Sorted.{sum_by-IsPermutation}

-- how often a number stands in the list
abbrev pub times : ℕ → List ℕ → ℕ
times a [] = 0
times a (x ∷ xs) = cond (eqb x a) (1 + times a xs) (times a xs)

pub times-permutation : (a : ℕ) (xs ys : List ℕ) → IsPermutation xs ys → times a ys ≡ times a xs
times-permutation a xs ys h =
    is_count_by (times a) (λ x. eqb x a) refl (λ x l. refl) ys ∙ sum_by-IsPermutation _ xs ys h
    ∙ sym (is_count_by (times a) (λ x. eqb x a) refl (λ x l. refl) xs)

pub times-append : (a : ℕ) (xs ys : List ℕ) → times a (xs ++ ys) ≡ times a xs + times a ys
times-append a [] ys = omega arith
times-append a (x ∷ xs) ys = grind (arith, nat_tests, times-append a xs ys)

pub contains_cases : (x : ℕ) (xs : List ℕ) (a : ℕ) → Contains (x ∷ xs) a → (x ≡ a) ⊎ Contains xs a
contains_cases x xs a (zero, l, e) = inl e
contains_cases x xs a (suc k, l, e) = inr (k, omega arith, e)

pub times_contained : (a : ℕ) (xs : List ℕ) → Contains xs a → 0 < times a xs
times_contained a [] (k, l, e) = absurd (omega arith)
times_contained a (x ∷ xs) h = elim (contains_cases x xs a h) [
  | inl e ↦ grind (arith, nat_tests)
  | inr c ↦ let more = times_contained a xs c in grind (arith, nat_tests)
]

pub times_below : (a low n : ℕ) → a < low → times a (range_with_len low n) ≡ 0
times_below a low zero h = refl
times_below a low (suc n) h = grind (arith, nat_tests, times_below a (low + 1) n (omega arith))

pub times_once : (a low n : ℕ) → times a (range_with_len low n) ≤ 1
times_once a low zero = omega arith
times_once a low (suc n) = grind (arith, nat_tests, times_once a (low + 1) n, times_below a (low + 1) n)

pub times_within : (a low n : ℕ) → 0 < times a (range_with_len low n) → (low ≤ a) × (a < low + n)
times_within a low zero h = absurd (omega arith)
times_within a low (suc n) h = elim (cases_eq low a) [
  | inl e ↦ (omega arith, omega arith)
  | inr apart ↦
      let later : 0 < times a (range_with_len (low + 1) n) = grind (arith, nat_tests) in
      let within = times_within a (low + 1) n later in
      (omega (arith, within.0), omega (arith, within.1))
]

-- each number of the range stands there
pub times_in : (a low n : ℕ) → low ≤ a → a < low + n → 0 < times a (range_with_len low n)
times_in a low zero above below = absurd (omega arith)
times_in a low (suc n) above below = elim (cases_eq low a) [
  | inl e ↦ grind (arith, nat_tests)
  | inr apart ↦ let later = times_in a (low + 1) n (omega arith) (omega arith) in grind (arith, nat_tests)
]
