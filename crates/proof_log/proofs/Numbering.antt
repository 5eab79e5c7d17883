-- Numbers without leading zeros: they are what `decimal` writes, and are read in one way.
use Rattle.std.proofs.Common.{◌≡◌, ℕ, zero, suc, ◌^◌, ◌<◌, ◌≤◌, Bool, true, false, List, [], ◌∷◌, ◌++◌, length, get_or, refl, sym, ◌∙◌, ap, arith}
use Rattle.std.specs.Prelude.{decimal}
use Rattle.std.specs.Char.{digit_value}
use Rattle.std.specs.Str.Parse.{AllDigits, IsNumeral}
use Rattle.std.proofs.lemmas.Fmt.{decimal_is_IsNumeral, decimal-digits_value, decimal_digit, first_decimal}
use Rattle.std.proofs.lemmas.Str.Parse.{numerals_by_value, tells_digits}
use Rattle.numerals.specs.Spans.{is_decimal_digit, StartsNot}
use Rattle.numerals.proofs.Digits.{digits_pass}
use Rattle.numerals.proofs.GeneralSpans.{one_span}
use Rattle.proof_log.specs.LogText.{sign}
use Rattle.proof_log.specs.LogFiles.{IsNumber}

one_digit : (n : ℕ) → n ≤ 4294967295 → get_or (decimal n) 0 0 ≡ 48 → length (decimal n) ≡ 1
one_digit zero small first = ap length (decimal_digit 0 (omega arith))
one_digit (suc n) small first = let above = first_decimal (suc n) (omega arith) (omega (arith, small)) in absurd (omega (arith, above, first))

-- what `decimal` writes is a number
pub number_decimal : (n : ℕ) → n ≤ 4294967295 → IsNumber (decimal n) n
number_decimal n small = let wide : n < 2 ^ 64 = omega (arith, small) in let written = decimal_is_IsNumeral n wide in (written.0, written.1, one_digit n small)

-- and a number that isn't too wide is what `decimal` writes
pub decimal_is : (digits : List ℕ) (n : ℕ) → IsNumber digits n → n ≤ 4294967295 → decimal n ≡ digits
decimal_is digits n (numeral, value, first) small =
    ap decimal (sym value)
    ∙ decimal-digits_value (numerals_by_value (AllDigits 10) tells_digits) digits numeral.1 numeral.0 first (omega (arith, value, small))

pub space_ends : (rest : List ℕ) → StartsNot is_decimal_digit (32 ∷ rest)
space_ends rest = λ b bs e. let same : 32 ≡ b = cc in sym (ap is_decimal_digit same)

pub nothing_ends : StartsNot is_decimal_digit []
nothing_ends = λ b bs e. absurd cc

-- digits before something that isn't one are read in one way
pub one_number : (d rest d' rest' : List ℕ) → AllDigits 10 d → AllDigits 10 d' → StartsNot is_decimal_digit rest → StartsNot is_decimal_digit rest'
    → d ++ rest ≡ d' ++ rest' → (d ≡ d') × (rest ≡ rest')
one_number d rest d' rest' all all' ends ends' e = one_span is_decimal_digit d rest d' rest' e (digits_pass d all) (digits_pass d' all') ends ends'

pub no_minus : (d rest more : List ℕ) → IsNumeral 10 d → d ++ rest ≡ 45 ∷ more → ⊥
no_minus [] rest more numeral e = omega (arith, numeral.0)
no_minus (x ∷ xs) rest more numeral e =
    let same : x ≡ 45 = cc in
    let at : digit_value x ≡ 36 = ap digit_value same in
    omega (arith, numeral.1.0, at)

cons_tail : (x : ℕ) (xs ys : List ℕ) → x ∷ xs ≡ x ∷ ys → xs ≡ ys
cons_tail x xs ys e = cc

-- a sign, digits and a space are read in one way
pub one_literal : (p q : Bool) (d rest d' rest' : List ℕ) → IsNumeral 10 d → IsNumeral 10 d' → sign p ++ d ++ 32 ∷ rest ≡ sign q ++ d' ++ 32 ∷ rest'
    → (p ≡ q) × (d ≡ d') × (rest ≡ rest')
one_literal true true d rest d' rest' n n' e =
    let both = one_number d (32 ∷ rest) d' (32 ∷ rest') n.1 n'.1 (space_ends rest) (space_ends rest') e in
    (refl, both.0, cons_tail 32 rest rest' both.1)
one_literal false false d rest d' rest' n n' e =
    let both = one_number d (32 ∷ rest) d' (32 ∷ rest') n.1 n'.1 (space_ends rest) (space_ends rest') (cons_tail 45 (d ++ 32 ∷ rest) (d' ++ 32 ∷ rest') e) in
    (refl, both.0, cons_tail 32 rest rest' both.1)
one_literal true false d rest d' rest' n n' e = absurd (no_minus d (32 ∷ rest) (d' ++ 32 ∷ rest') n e)
one_literal false true d rest d' rest' n n' e = absurd (no_minus d' (32 ∷ rest') (d ++ 32 ∷ rest) n' (sym e))
