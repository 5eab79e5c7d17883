-- A list of n numbers that has each number from 1 to n is a permutation of them.
use Rattle.std.proofs.Common.{◌≡◌, ℕ, zero, suc, ◌+◌, ◌<◌, ◌≤◌, inl, inr, List, [], ◌∷◌, length, Contains, IsPermutation, sym, ◌∙◌, arith}
use Rattle.std.specs.List.{range_with_len, remove}
use Rattle.std.proofs.lemmas.List.FromFn.{length-range_with_len}
use Rattle.std.proofs.lemmas.List.Sorted.{IsPermutation-refl, IsPermutation-sym, IsPermutation-trans, IsPermutation-cons, IsPermutation-remove, length_permutation, Contains-permutation}
use Rattle.clause_store.proofs.GeneralLists.{Contains-cons_cases}
use Rattle.fer_events.specs.Orders.{numbers}
use Rattle.order_coding.specs.Variables.{IsNumber}

covers : (low n : ℕ) (ys : List ℕ) → length ys ≡ n → ((a : ℕ) → low ≤ a → a < low + n → Contains ys a) → IsPermutation (range_with_len low n) ys
covers low zero [] e h = IsPermutation-refl []
covers low zero (y ∷ ys) e h = absurd (omega arith)
covers low (suc n) ys e h =
    let found = h low (omega arith) (omega arith) in
    let front : IsPermutation ys (low ∷ remove ys found.0) = IsPermutation-remove ys found.0 low found.1 (sym found.2) in
    let short : length (remove ys found.0) ≡ n = omega (arith, length_permutation ys (low ∷ remove ys found.0) front, e) in
    let rest = covers (low + 1) n (remove ys found.0) short
    (λ a above below. elim (Contains-cons_cases low (remove ys found.0) a (Contains-permutation ys (low ∷ remove ys found.0) a front (h a (omega arith) (omega arith)))) [
      | inl same ↦ absurd (omega arith)
      | inr later ↦ later
    ]) in
    IsPermutation-trans (range_with_len low (suc n)) (low ∷ remove ys found.0) ys
    (IsPermutation-cons low (range_with_len (low + 1) n) (remove ys found.0) rest)
    (IsPermutation-sym ys (low ∷ remove ys found.0) front)

pub permutes : (n : ℕ) (order : List ℕ) → length order ≡ n → ((a : ℕ) → IsNumber n a → Contains order a) → IsPermutation (numbers n) order
permutes n order e h = covers 1 n order e (λ a above below. h a (above, omega arith))

pub permuted_length : (n : ℕ) (order : List ℕ) → IsPermutation (numbers n) order → length order ≡ n
permuted_length n order h = length_permutation (numbers n) order h ∙ length-range_with_len 1 n
