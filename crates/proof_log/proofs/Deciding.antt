-- What stands at the front of bytes can be told.
use Rattle.std.proofs.Common.{◌≡◌, ◌≢◌, ◌⊎◌, ℕ, zero, suc, ◌+◌, ◌-◌, ◌<◌, ◌≤◌, inl, inr, Bool, true, false, List, [], ◌∷◌, ◌++◌, length, take, drop, get_or, refl, sym, ◌∙◌, ap, ap₂, subst, arith, Option, None, Some}
use Rattle.std.specs.Prelude.{codes, decimal, IsSome}
use Rattle.std.specs.List.{All, Contains}
use Rattle.std.specs.List.Sorted.{IsStrictlyIncreasing}
use Rattle.std.specs.Str.Parse.{AllDigits, IsNumeral, digits_value}
use Rattle.std.proofs.lemmas.Bool.{cases_Bool}
use Rattle.std.proofs.lemmas.Bool.Decides.{eqb_tells}
use Rattle.std.proofs.lemmas.List.{append_assoc, append-nil, append_cancel_left, length-append}
use Rattle.std.proofs.lemmas.List.Concat.{flat_map-cons}
use Rattle.std.proofs.lemmas.List.Elements.{All-nil, All-cons, All-head, All-tail}
use Rattle.numerals.specs.Numbers.{IsDecimal, numbers_text}
use Rattle.numerals.specs.Spans.{is_decimal_digit, StartsNot, IsSpan}
use Rattle.numerals.proofs.Digits.{passed_are_digits}
use Rattle.proof_log.specs.LogFiles.{IsNumber}
use Rattle.proof_log.specs.Tokens.{BeginsNumber}
use Rattle.proof_log.proofs.OneWay.{one_first, numbers_end}
use Rattle.proof_log.proofs.TokenSpans.{number_first, no_number, no_decimal, number_found}

-- a fact holds or doesn't
abbrev pub Told : Type 0 → Type 0
Told P = P ⊎ (P → ⊥)

pub both : (P Q : Type 0) → Told P → Told Q → Told (P × Q)
both P Q (inl p) (inl q) = inl (p, q)
both P Q (inr p) q = inr (λ h. p h.0)
both P Q (inl p) (inr q) = inr (λ h. q h.1)

pub implies : (P Q : Type 0) → Told P → Told Q → Told (P → Q)
implies P Q (inl p) (inl q) = inl (λ h. q)
implies P Q (inr p) q = inl (λ h. absurd (p h))
implies P Q (inl p) (inr q) = inr (λ h. q (h p))

pub same_number : (a b : ℕ) → Told (a ≡ b)
same_number a b = elim (eqb_tells a b) [
  | inl (told, same) ↦ inl same
  | inr (told, other) ↦ inr other
]

pub below : (a b : ℕ) → Told (a ≤ b)
below zero b = inl (omega arith)
below (suc a) zero = inr (λ h. omega (arith, h))
below (suc a) (suc b) = elim (below a b) [
  | inl le ↦ inl (omega (arith, le))
  | inr above ↦ inr (λ h. above (omega (arith, h)))
]

cons_tail : (x : ℕ) (xs ys : List ℕ) → x ∷ xs ≡ x ∷ ys → xs ≡ ys
cons_tail x xs ys e = cc

cons_head : (x y : ℕ) (xs ys : List ℕ) → x ∷ xs ≡ y ∷ ys → x ≡ y
cons_head x y xs ys e = cc

-- what stands behind these bytes
pub strip : (front line : List ℕ) → Told ((rest : List ℕ) × (line ≡ front ++ rest))
strip [] line = inl (line, refl)
strip (x ∷ xs) [] = inr (λ h. absurd (omega (arith, ap (λ (l : List ℕ). length l) h.1)))
strip (x ∷ xs) (y ∷ ys) = elim (same_number y x) [
  | inr other ↦ inr (λ h. other (cons_head y x ys (xs ++ h.0) h.1))
  | inl same ↦ elim (strip xs ys) [
    | inl found ↦ inl (found.0, ap₂ (λ (z : ℕ) (zs : List ℕ). z ∷ zs) same found.1)
    | inr missing ↦ inr (λ h. missing (h.0, tails y x ys (xs ++ h.0) h.1))
  ]
]
  where
    tails : (x y : ℕ) (xs ys : List ℕ) → x ∷ xs ≡ y ∷ ys → xs ≡ ys
    tails x y xs ys e = cc

pub same_bytes : (xs ys : List ℕ) → Told (xs ≡ ys)
same_bytes xs ys = elim (strip ys xs) [
  | inr missing ↦ inr (λ e. missing ([], e ∙ sym (append-nil ys)))
  | inl ([], e) ↦ inl (e ∙ append-nil ys)
  | inl (z ∷ zs, e) ↦ inr (λ same. absurd (omega (arith, ap (λ (l : List ℕ). length l) (sym same ∙ e), length-append ys (z ∷ zs))))
]

-- the digits at the front
pub span : (bytes : List ℕ) → (front back : List ℕ) × IsSpan is_decimal_digit bytes front back
span [] = ([], [], record { spelled = refl; passes = All-nil (λ b. is_decimal_digit b ≡ true); ends = λ b bs e. absurd cc })
span (b ∷ bs) = elim (cases_Bool (is_decimal_digit b)) [
  | inr stops ↦ ([], b ∷ bs, record { spelled = refl; passes = All-nil (λ b. is_decimal_digit b ≡ true); ends = λ x xs e. ap is_decimal_digit (sym (cons_head b x bs xs e)) ∙ stops })
  | inl passes ↦
      let behind = span bs in
      (b ∷ behind.0, behind.1, record { spelled = ap (λ (l : List ℕ). b ∷ l) behind.2.spelled; passes = All-cons (λ b. is_decimal_digit b ≡ true) b behind.0 passes behind.2.passes; ends = behind.2.ends })
]

-- digits are a number
pub is_number : (digits : List ℕ) → All (λ b. is_decimal_digit b ≡ true) digits → Told (IsNumber digits (digits_value 10 digits))
is_number [] all = inr (λ h. omega (arith, h.0.0))
is_number (b ∷ bs) all = elim (same_number b 48) [
  | inr other ↦ inl (number_first (b ∷ bs) b bs refl all other)
  | inl zero_first ↦ elim (same_number (length (b ∷ bs)) 1) [
    | inl alone ↦ inl ((omega arith, passed_are_digits (b ∷ bs) all), refl, λ e. alone)
    | inr longer ↦ inr (λ h. longer (h.2 zero_first))
  ]
]

pub number_is : (digits : List ℕ) (n : ℕ) → IsNumber digits n → IsNumber digits (digits_value 10 digits)
number_is digits n is = (is.0, refl, is.2)

-- a number stands behind a space
pub next_number : (line : List ℕ) → Told ((n : ℕ) × (rest : List ℕ) × BeginsNumber line n rest)
next_number line = elim (strip (codes " ") line) [
  | inr missing ↦ inr (λ h. missing (decimal h.0 ++ h.1, h.2.spelled))
  | inl (unspaced, e) ↦
      let cut = span unspaced in
      elim (is_number cut.0 cut.2.passes) [
        | inr absent ↦ inr (λ h. no_number line unspaced cut.0 cut.1 e cut.2 (λ n is. absent (number_is cut.0 n is)) h.0 h.1 h.2)
        | inl is ↦ elim (below (digits_value 10 cut.0) 4294967295) [
          | inr wide ↦ inr (λ h. no_decimal line unspaced cut.0 cut.1 e cut.2 (λ n d. wide (omega (arith, d.1, d.2))) h.0 h.1 h.2)
          | inl small ↦ inl (digits_value 10 cut.0, cut.1, number_found line unspaced cut.0 cut.1 (digits_value 10 cut.0) e cut.2 is (is.0, refl, small))
        ]
      ]
]

-- the bytes are numbers
abbrev pub AreNumbers : List ℕ → Type 0
AreNumbers bytes = (ns : List ℕ) × All (λ n. n ≤ 4294967295) ns × (bytes ≡ numbers_text ns)

pub numbers : (fuel : ℕ) (bytes : List ℕ) → length bytes ≤ fuel → Told (AreNumbers bytes)
numbers fuel [] short = inl ([], All-nil (λ n. n ≤ 4294967295), refl)
numbers zero (b ∷ bs) short = absurd (omega (arith, short))
numbers (suc fuel) (b ∷ bs) short = elim (next_number (b ∷ bs)) [
  | inr absent ↦ inr (λ h. absent (first_of h.0 h.1 h.2))
  | inl (n, rest, begins) ↦ elim (numbers fuel rest (omega (arith, short, ap (λ (l : List ℕ). length l) begins.spelled, length-append (32 ∷ decimal n) rest))) [
    | inl (ns, small, e) ↦ inl (n ∷ ns, All-cons (λ n. n ≤ 4294967295) n ns begins.narrow small, begins.spelled ∙ ap (λ (l : List ℕ). 32 ∷ decimal n ++ l) e ∙ sym (flat_map-cons (λ k. 32 ∷ decimal k) n ns))
    | inr missing ↦ inr (λ h. missing (others_of h.0 h.1 h.2 n rest begins))
  ]
]
  where
    first_of : (ns : List ℕ) → All (λ n. n ≤ 4294967295) ns → b ∷ bs ≡ numbers_text ns → (n : ℕ) × (rest : List ℕ) × BeginsNumber (b ∷ bs) n rest
    first_of [] small e = absurd (omega (arith, ap (λ (l : List ℕ). length l) e))
    first_of (m ∷ ms) small e = (m, numbers_text ms, record { spelled = e ∙ flat_map-cons (λ k. 32 ∷ decimal k) m ms; narrow = All-head (λ n. n ≤ 4294967295) m ms small; ends = numbers_end ms })

    others_of : (ns : List ℕ) → All (λ n. n ≤ 4294967295) ns → b ∷ bs ≡ numbers_text ns → (n : ℕ) (rest : List ℕ) → BeginsNumber (b ∷ bs) n rest → AreNumbers rest
    others_of [] small e n rest begins = absurd (omega (arith, ap (λ (l : List ℕ). length l) e))
    others_of (m ∷ ms) small e n rest begins =
        let same = one_first m ms n rest (All-head (λ n. n ≤ 4294967295) m ms small) begins.narrow begins.ends (sym e ∙ begins.spelled) in
        (ms, All-tail (λ n. n ≤ 4294967295) m ms small, sym same.1)
