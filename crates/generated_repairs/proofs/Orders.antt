-- What stands before the cut of an order that keeps a pair.
use Rattle.std.proofs.Common.{◌≡◌, ℕ, ◌+◌, ◌-◌, ◌<◌, ◌≤◌, inl, inr, List, ◌++◌, length, take, drop, Contains, IsPermutation, sym, ◌∙◌, ap, subst, arith}
use Rattle.std.proofs.lemmas.Bool.{cases_lt}
use Rattle.std.proofs.lemmas.List.{take-append-le, take-append-drop}
use Rattle.std.proofs.Math.Seq.{take-append-add}
use Rattle.std.proofs.lemmas.List.Elements.{Contains-append_left}
use Rattle.fer_events.specs.Orders.{numbers, StandsBefore}
use Rattle.fer_events.proofs.Times.{times, times-permutation, times-append, times_contained, times_once, times_within}

-- what the first numbers contain the list contains
times-take : (c a : ℕ) (xs : List ℕ) → times a (take c xs) ≤ times a xs
times-take c a xs =
    let whole : times a xs ≡ times a (take c xs ++ drop c xs) = ap (times a) (sym (take-append-drop c xs)) in
    omega (arith, whole, times-append a (take c xs) (drop c xs))

-- no number stands in two parts of a permutation
one_part : (n : ℕ) (order front back : List ℕ) (b : ℕ) → IsPermutation (numbers n) order → order ≡ front ++ back → 0 < times b front → 0 < times b back → ⊥
one_part n order front back b permutes is first second =
    let whole : times b order ≡ times b front + times b back = ap (times b) is ∙ times-append b front back in
    omega (arith, whole, first, second, times-permutation b (numbers n) order permutes, times_once b 1 n)

-- where a is kept before b and b stands before the cut, a does
pub before_too : (n : ℕ) (order : List ℕ) (cut a b : ℕ) → IsPermutation (numbers n) order → StandsBefore order a b → Contains (take cut order) b → Contains (take cut order) a
before_too n order cut a b permutes (front, back, is, first, second) early = elim (cases_lt (length front) cut) [
  | inl beyond ↦
      let far : cut ≡ length front + (cut - length front) = omega (arith, beyond) in
      let split : take cut order ≡ front ++ take (cut - length front) back =
      ap (take cut) is ∙ ap (λ (k : ℕ). take k (front ++ back)) far ∙ take-append-add front back (cut - length front) in
      subst (λ (l : List ℕ). Contains l a) (sym split) (Contains-append_left front (take (cut - length front) back) a first)
  | inr within ↦
      let near : take cut order ≡ take cut front = ap (take cut) is ∙ take-append-le cut front back (omega (arith, within)) in
      let here : 0 < times b (take cut front) = times_contained b (take cut front) (subst (λ (l : List ℕ). Contains l b) near early) in
      absurd (one_part n order front back b permutes is (omega (arith, here, times-take cut b front)) (times_contained b back second))
]

-- an order of n numbers has no 0
pub from_one : (n : ℕ) (order : List ℕ) (cut a : ℕ) → IsPermutation (numbers n) order → Contains (take cut order) a → 0 < a
from_one n order cut a permutes early =
    let here : 0 < times a (take cut order) = times_contained a (take cut order) early in
    (times_within a 1 n (omega (arith, here, times-take cut a order, times-permutation a (numbers n) order permutes))).0
