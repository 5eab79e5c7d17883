-- A tournament without cycles of three is a linear order, and the number of predecessors is the place.
use Rattle.std.proofs.Common.{◌≡◌, ◌≢◌, ℕ, ◌+◌, ◌<◌, ◌≤◌, ◌⊎◌, inl, inr, List, [], ◌∷◌, Contains, length, Bool, true, false, not, cond, count_by, refl, ap, sym, ◌∙◌, arith}
use Rattle.std.proofs.lemmas.Bool.{cases_eq}
use Rattle.std.proofs.lemmas.List.Sums.{sum_by-cons}
use Rattle.order_coding.proofs.GeneralLists.{bit_cases, true_false}
use Rattle.order_coding.specs.Tournament.{IsTournament, HasNoCycle, rank}
use Rattle.clause_store.proofs.GeneralLists.{Contains-head_is, Contains-tail, Contains-cons_cases, Contains-nil}

pub count-cons : (p : ℕ → Bool) (x : ℕ) (xs : List ℕ) → count_by p (x ∷ xs) ≡ cond (p x) 1 0 + count_by p xs
count-cons p x xs = sum_by-cons (λ y. cond (p y) 1 0) x xs

bit-le : (p q : Bool) → (p ≡ true → q ≡ true) → cond p 1 0 ≤ cond q 1 0
bit-le false q h = omega arith
bit-le true true h = omega arith
bit-le true false h = true_false false (h refl) refl

bit-less : (p q : Bool) → p ≡ false → q ≡ true → cond p 1 0 < cond q 1 0
bit-less p q e f = rw (e, f) (omega arith)

-- a test that passes more counts no less
pub count-le :
    (xs : List ℕ) (p q : ℕ → Bool) → ((y : ℕ) → Contains xs y → p y ≡ true → q y ≡ true)
    → count_by p xs ≤ count_by q xs
count-le [] p q h = omega arith
count-le (x ∷ xs) p q h =
    omega (
      arith,
      count-cons p x xs,
      count-cons q x xs,
      bit-le (p x) (q x) (h x (Contains-head_is x xs x refl)),
      count-le xs p q (λ y c. h y (Contains-tail x xs y c)),
    )

pub count-less :
    (xs : List ℕ) (p q : ℕ → Bool) (a : ℕ) → ((y : ℕ) → Contains xs y → p y ≡ true → q y ≡ true) → Contains xs a
    → p a ≡ false → q a ≡ true → count_by p xs < count_by q xs
count-less [] p q a h c e f = absurd (Contains-nil a c)
count-less (x ∷ xs) p q a h c e f =
    let rest : (y : ℕ) → Contains xs y → p y ≡ true → q y ≡ true = λ y d. h y (Contains-tail x xs y d) in
    elim (Contains-cons_cases x xs a c) [
      | inl same ↦
          omega (
            arith,
            count-cons p x xs,
            count-cons q x xs,
            bit-less (p x) (q x) (ap p same ∙ e) (ap q same ∙ f),
            count-le xs p q rest,
          )
      | inr later ↦
          omega (
            arith,
            count-cons p x xs,
            count-cons q x xs,
            bit-le (p x) (q x) (h x (Contains-head_is x xs x refl)),
            count-less xs p q a rest later e f,
          )
    ]

count-all : (xs : List ℕ) → count_by (λ _. true) xs ≡ length xs
count-all [] = refl
count-all (x ∷ xs) = omega (arith, count-cons (λ _. true) x xs, count-all xs)

not-true : (a b : Bool) → a ≡ not b → a ≡ true → b ≡ false
not-true a true e t = true_false a t e
not-true a false e t = refl

other-true : (a b : Bool) → a ≡ not b → (b ≡ true → ⊥) → a ≡ true
other-true a true e f = absurd (f refl)
other-true a false e f = e

module _ (xs : List ℕ) (before : ℕ → ℕ → Bool) (t : IsTournament xs before) where
  pub turned : (x y : ℕ) → Contains xs x → Contains xs y → before x y ≡ true → before y x ≡ false
  turned x y cx cy e = elim (cases_eq x y) [
    | inl same ↦ true_false (before x y) e (ap (λ k. before k y) same ∙ t.none y cy)
    | inr apart ↦ not-true (before x y) (before y x) (t.one x y cx cy apart) e
  ]

  pub apart : (x y : ℕ) → Contains xs x → before x y ≡ true → x ≢ y
  apart x y cx e = λ same. true_false (before x y) e (ap (before x) (sym same) ∙ t.none x cx)

  pub either : (x y : ℕ) → Contains xs x → Contains xs y → x ≢ y → (before x y ≡ true) ⊎ (before y x ≡ true)
  either x y cx cy ne = elim (bit_cases (before y x)) [
    | inl e ↦ inr e
    | inr e ↦ inl (t.one x y cx cy ne ∙ ap not e)
  ]

  module _ (free : HasNoCycle xs before) where
    pub transitive :
        (x y z : ℕ) → Contains xs x → Contains xs y → Contains xs z → before x y ≡ true → before y z ≡ true
        → before x z ≡ true
    transitive x y z cx cy cz e f = elim (cases_eq x z) [
      | inl same ↦ true_false (before y z) f (ap (before y) (sym same) ∙ turned x y cx cy e)
      | inr ne ↦ other-true (before x z) (before z x) (t.one x z cx cz ne) (free x y z cx cy cz e f)
    ]

    pub rank-less :
        (x y : ℕ) → Contains xs x → Contains xs y → before x y ≡ true → rank xs before x < rank xs before y
    rank-less x y cx cy e =
        count-less xs (λ k. before k x) (λ k. before k y) x (λ k ck f. transitive k x y ck cx cy f e) cx (t.none x cx) e

    -- the number of predecessors tells which of two comes first
    pub rank-before :
        (x y : ℕ) → Contains xs x → Contains xs y → rank xs before x < rank xs before y → before x y ≡ true
    rank-before x y cx cy l = elim (cases_eq x y) [
      | inl same ↦ let e : rank xs before x ≡ rank xs before y = ap (rank xs before) same in absurd (omega arith)
      | inr ne ↦ elim (either x y cx cy ne) [
        | inl e ↦ e
        | inr e ↦ absurd (omega (arith, rank-less y x cy cx e))
      ]
    ]

    pub rank-same : (x y : ℕ) → Contains xs x → Contains xs y → rank xs before x ≡ rank xs before y → x ≡ y
    rank-same x y cx cy same = elim (cases_eq x y) [
      | inl e ↦ e
      | inr ne ↦ elim (either x y cx cy ne) [
        | inl e ↦ absurd (omega (arith, rank-less x y cx cy e))
        | inr e ↦ absurd (omega (arith, rank-less y x cy cx e))
      ]
    ]

  pub rank-within : (x : ℕ) → Contains xs x → rank xs before x < length xs
  rank-within x cx =
      omega (arith, count-less xs (λ k. before k x) (λ _. true) x (λ _ _ _. refl) cx (t.none x cx) refl, count-all xs)
