-- Decimal digits, and the number that they write.
use Rattle.std.proofs.Common.{◌≡◌, ℕ, zero, suc, ◌+◌, ◌<◌, true, false, eqb, List, [], ◌∷◌, length, take, get_or, min, ◌-◌, ◌*◌, arith}
use Rattle.std.specs.List.{All}
use Rattle.std.specs.Char.{digit_value}
use Rattle.std.specs.Str.Parse.{AllDigits, digits_value}
use Rattle.std.proofs.lemmas.Bool.{ltb-true}
use Rattle.std.proofs.lemmas.Bool.Decides.{nat_tests}
use Rattle.std.proofs.lemmas.List.Elements.{All-nil, All-cons, All-head, All-tail}
use Rattle.std.proofs.lemmas.Int.Digits.{digits_value_more}
use Rattle.std.proofs.lemmas.Str.{digit_value_digit}
use Rattle.std.proofs.lemmas.Str.Parse.{digit_from_value}
use Rattle.numerals.specs.Spans.{is_decimal_digit}

pub digits_pass : (digits : List ℕ) → AllDigits 10 digits → All (λ b. is_decimal_digit b ≡ true) digits
digits_pass [] all = All-nil (λ b. is_decimal_digit b ≡ true)
digits_pass (d ∷ ds) all = All-cons (λ b. is_decimal_digit b ≡ true) d ds (grind (arith, nat_tests)) (digits_pass ds all.1)

pub passed_are_digits : (digits : List ℕ) → All (λ b. is_decimal_digit b ≡ true) digits → AllDigits 10 digits
passed_are_digits [] all = tt
passed_are_digits (d ∷ ds) all =
    (ltb-true (digit_value d) 10 (All-head (λ b. is_decimal_digit b ≡ true) d ds all), passed_are_digits ds (All-tail (λ b. is_decimal_digit b ≡ true) d ds all))

-- the value, or the least that is too wide, behind one more digit
pub value_more :
    (digits : List ℕ) (i value next : ℕ) → All (λ b. is_decimal_digit b ≡ true) digits → i < length digits
    → value ≡ min (digits_value 10 (take i digits)) 4294967296 → next ≡ min (10 * value + (get_or digits i 0 - 48)) 4294967296
    → next ≡ min (digits_value 10 (take (i + 1) digits)) 4294967296
value_more digits i value next all l at is =
    let digit = get_or digits i 0 in
    let small : digit_value digit < 10 = ltb-true (digit_value digit) 10 (all i 0 l) in
    let worth : digit_value digit + 48 ≡ digit = digit_value_digit digit (digit_from_value digit small) in
    let step = digits_value_more 10 digits i l in
    wide (digits_value 10 (take i digits)) (digits_value 10 (take (i + 1) digits)) value next digit (digit_value digit) at is worth step
  where
    wide : (d e value next digit x : ℕ) → value ≡ min d 4294967296 → next ≡ min (10 * value + (digit - 48)) 4294967296 → x + 48 ≡ digit
        → e ≡ d * 10 + x → next ≡ min e 4294967296
    wide d e value next digit x at is worth step = omega (arith, at, is, worth, step)

pub not_zero : (n : ℕ) → eqb n 0 ≡ false → 0 < n
not_zero zero e = absurd cc
not_zero (suc n) e = omega arith
