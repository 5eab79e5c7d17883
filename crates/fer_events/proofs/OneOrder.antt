-- Where every pair is kept, program order is the one valid order.
use Rattle.std.proofs.Common.{◌≡◌, ℕ, zero, suc, ◌+◌, ◌<◌, ◌≤◌, ◌≢◌, inl, inr, List, [], ◌∷◌, ◌++◌, map, ◌-◌, Contains, refl, sym, ◌∙◌, ap, arith}
use Rattle.std.specs.List.{range_with_len}
use Rattle.std.proofs.lemmas.List.FromFn.{length-map-range_with_len, get_or-map-range_with_len}
use Rattle.std.proofs.lemmas.List.Elements.{Contains-append_left, Contains-append_right, Contains-append_cases}
use Rattle.std.proofs.lemmas.List.Sorted.{IsPermutation-refl}
use Rattle.std.proofs.lemmas.Bool.{cases_eq}
use Rattle.std.proofs.lemmas.Bool.Decides.{nat_tests}
use Rattle.fer_events.specs.Orders.{numbers, StandsBefore, IsValidOrder, all_pairs, pairs_from}
use Rattle.fer_events.proofs.Ranges.{range_split, range_contains}
use Rattle.fer_events.proofs.Times.{times, times-permutation, times-append, times_contained, contains_cases, times_once, times_within}

-- the head is put away where it isn't a
before_tail : (x : ℕ) (xs : List ℕ) (a b : ℕ) → x ≢ a → StandsBefore (x ∷ xs) a b → StandsBefore xs a b
before_tail x xs a b apart ([], back, is, in_front, in_back) = absurd (omega (arith, in_front.1))
before_tail x xs a b apart (y ∷ front, back, is, in_front, in_back) = elim (contains_cases y front a in_front) [
  | inl e ↦ absurd (apart (cc))
  | inr later ↦ (front, back, cc, later, in_back)
]

-- what stands behind another number isn't only the head
twice : (x : ℕ) (xs : List ℕ) (a : ℕ) → x ≢ a → StandsBefore (x ∷ xs) a x → 1 < times x (x ∷ xs)
twice x xs a apart ([], back, is, in_front, in_back) = absurd (omega (arith, in_front.1))
twice x xs a apart (y ∷ front, back, is, in_front, in_back) =
    let same : y ≡ x = cc in
    let tail : xs ≡ front ++ back = cc in
    let behind = times_contained x back in_back in
    let whole : times x xs ≡ times x front + times x back = ap (times x) tail ∙ times-append x front back in
    grind (arith, nat_tests)

-- a list with the numbers of the range, in which each stands before each greater one
pub one_order : (low n : ℕ) (order : List ℕ) → ((a : ℕ) → times a order ≡ times a (range_with_len low n))
    → ((a b : ℕ) → low ≤ a → a < b → b < low + n → StandsBefore order a b) → order ≡ range_with_len low n
one_order low zero [] same before = refl
one_order low zero (x ∷ xs) same before = let none = same x in absurd (grind (arith, nat_tests))
one_order low (suc n) [] same before = let none = same low in absurd (grind (arith, nat_tests))
one_order low (suc n) (x ∷ xs) same before = elim (cases_eq x low) [
  | inl e ↦
      let rest : xs ≡ range_with_len (low + 1) n = one_order (low + 1) n xs
      (λ a. let here = same a in grind (arith, nat_tests))
      (λ a b above apart below. before_tail x xs a b (omega arith) (before a b (omega arith) apart (omega arith))) in
      cc
  | inr apart ↦
      let here = same x in
      let some : 0 < times x (range_with_len low (suc n)) = grind (arith, nat_tests) in
      let within = times_within x low (suc n) some in
      let more = twice x xs low apart (before low x (omega arith) (omega (arith, within.0)) within.1) in
      absurd (omega (arith, more, here, times_once x low (suc n)))
]

-- which pairs are all pairs
pub all_pairs_in : (low n a b : ℕ) → low ≤ a → a < b → b < low + n → Contains (pairs_from low n) (a, b)
all_pairs_in low zero a b above apart below = absurd (omega arith)
all_pairs_in low (suc n) a b above apart below = elim (cases_eq a low) [
  | inl e ↦
      let at : b - (low + 1) < n = omega arith in
      let pair : ℕ → ℕ × ℕ = λ c. (low, c) in
      let here : Contains (map pair (range_with_len (low + 1) n)) (low, b) =
      (b - (low + 1), omega (arith, length-map-range_with_len pair (low + 1) n), get_or-map-range_with_len pair (low + 1) n (b - (low + 1)) b (low, b) at (omega arith)) in
      let there = Contains-append_left _ (pairs_from (low + 1) n) (low, b) here in
      rw e there
  | inr later ↦ Contains-append_right _ _ _ (all_pairs_in (low + 1) n a b (omega arith) apart (omega arith))
]

-- where every pair is kept, a valid order is program order
pub only_order : (n : ℕ) (order : List ℕ) → IsValidOrder n (all_pairs n) order → order ≡ numbers n
only_order n order valid = one_order 1 n order (λ a. times-permutation a (numbers n) order valid.permutes)
    (λ a b above apart below. valid.keeps a b (all_pairs_in 1 n a b above apart below))

-- the pairs that are kept are pairs of numbers of the n events, in order
pub pairs_below : (low n a b : ℕ) → Contains (pairs_from low n) (a, b) → (low ≤ a) × (a < b) × (b < low + n)
pairs_below low zero a b (k, l, e) = absurd (omega (arith, l))
pairs_below low (suc n) a b h = elim (Contains-append_cases _ (pairs_from (low + 1) n) (a, b) h) [
  | inl here ↦
      let pair : ℕ → ℕ × ℕ = λ c. (low, c) in
      let short : here.0 < n = omega (arith, here.1, length-map-range_with_len pair (low + 1) n) in
      let is : ◌≡◌ {A = ℕ × ℕ} (low, low + 1 + here.0) (a, b) = sym (get_or-map-range_with_len pair (low + 1) n here.0 (low + 1 + here.0) (a, b) short refl) ∙ here.2 in
      let first : low ≡ a = ap (λ (p : ℕ × ℕ). p.0) is in
      let second : low + 1 + here.0 ≡ b = ap (λ (p : ℕ × ℕ). p.1) is in
      (omega arith, omega arith, omega arith)
  | inr later ↦
      let below = pairs_below (low + 1) n a b later in
      (omega (arith, below.0), below.1, omega (arith, below.2))
]

-- the numbers in program order are a valid order under all pairs
pub numbers_valid : (n : ℕ) → IsValidOrder n (all_pairs n) (numbers n)
numbers_valid n = record {
  permutes = IsPermutation-refl (numbers n);
  keeps = λ a b h.
      let below = pairs_below 1 n a b h in
      let whole : n ≡ a + (n - a) = omega (arith, below.1, below.2) in
      let split : numbers n ≡ range_with_len 1 a ++ range_with_len (1 + a) (n - a) = ap (range_with_len 1) whole ∙ range_split 1 a (n - a) in (
        range_with_len 1 a,
        range_with_len (1 + a) (n - a),
        split,
        range_contains 1 a a below.0 (omega arith),
        range_contains (1 + a) (n - a) b (omega (arith, below.1)) (omega (arith, below.2)),
      );
}
