-- What the reader takes off the front of a line is what stands there.
use Rattle.std.proofs.Common.{◌≡◌, ◌≢◌, ℕ, ◌<◌, ◌≤◌, Bool, true, false, List, [], ◌∷◌, ◌++◌, length, get_or, refl, sym, ◌∙◌, ap, subst, arith}
use Rattle.std.specs.Prelude.{codes, decimal}
use Rattle.std.specs.List.{All}
use Rattle.std.specs.Str.Parse.{digits_value}
use Rattle.std.proofs.lemmas.List.{append_cancel_left}
use Rattle.std.proofs.lemmas.List.Concat.{flat_map-cons}
use Rattle.numerals.specs.Numbers.{IsDecimal, numbers_text}
use Rattle.numerals.specs.Spans.{is_decimal_digit, IsSpan}
use Rattle.numerals.proofs.Digits.{passed_are_digits}
use Rattle.clause_store.specs.declared.Lit.{Lit}
use Rattle.proof_log.specs.LogText.{sign, formula_line}
use Rattle.proof_log.specs.LogFiles.{IsNumber}
use Rattle.proof_log.specs.Tokens.{BeginsLiteral, BeginsNumber}
use Rattle.proof_log.proofs.Numbering.{number_decimal, decimal_is, one_number, space_ends, no_minus}
use Rattle.proof_log.proofs.OneWay.{one_first, numbers_end}

cons_tail : (x : ℕ) (xs ys : List ℕ) → x ∷ xs ≡ x ∷ ys → xs ≡ ys
cons_tail x xs ys e = cc

-- digits that don't begin with a 0 are a number
pub number_first : (digits : List ℕ) (b : ℕ) (bs : List ℕ) → digits ≡ b ∷ bs → All (λ x. is_decimal_digit x ≡ true) digits → b ≢ 48 → IsNumber digits (digits_value 10 digits)
number_first digits b bs e all other = (
  (omega (arith, ap (λ (l : List ℕ). length l) e), passed_are_digits digits all),
  refl,
  λ first. absurd (other (ap (λ (l : List ℕ). get_or l 0 0) (sym e) ∙ first)),
)

-- the digits behind a space are those of the number that stands there
pub number_span : (line unspaced digits rest : List ℕ) (n : ℕ) (r : List ℕ) → line ≡ codes " " ++ unspaced → IsSpan is_decimal_digit unspaced digits rest
    → BeginsNumber line n r → (digits ≡ decimal n) × (rest ≡ r)
number_span line unspaced digits rest n r e span begins =
    let cut : digits ++ rest ≡ decimal n ++ r = sym span.spelled ∙ cons_tail 32 unspaced (decimal n ++ r) (sym e ∙ begins.spelled) in
    one_number digits rest (decimal n) r (passed_are_digits digits span.passes) (number_decimal n begins.narrow).0.1 span.ends begins.ends cut

pub no_number : (line unspaced digits rest : List ℕ) → line ≡ codes " " ++ unspaced → IsSpan is_decimal_digit unspaced digits rest
    → ((n : ℕ) → IsNumber digits n → ⊥) → (n : ℕ) (r : List ℕ) → BeginsNumber line n r → ⊥
no_number line unspaced digits rest e span none n r begins =
    none n (subst (λ (d : List ℕ). IsNumber d n) (sym (number_span line unspaced digits rest n r e span begins).0) (number_decimal n begins.narrow))

pub no_decimal : (line unspaced digits rest : List ℕ) → line ≡ codes " " ++ unspaced → IsSpan is_decimal_digit unspaced digits rest
    → ((n : ℕ) → IsDecimal digits n → ⊥) → (n : ℕ) (r : List ℕ) → BeginsNumber line n r → ⊥
no_decimal line unspaced digits rest e span none n r begins =
    let is = number_decimal n begins.narrow in
    none n (subst (λ (d : List ℕ). IsDecimal d n) (sym (number_span line unspaced digits rest n r e span begins).0) (is.0, is.1, begins.narrow))

pub number_found : (line unspaced digits rest : List ℕ) (n : ℕ) → line ≡ codes " " ++ unspaced → IsSpan is_decimal_digit unspaced digits rest
    → IsNumber digits (digits_value 10 digits) → IsDecimal digits n → BeginsNumber line n rest
number_found line unspaced digits rest n e span number decimal_of = record {
  spelled = e ∙ ap (λ (l : List ℕ). codes " " ++ l) (span.spelled ∙ ap (λ (l : List ℕ). l ++ rest) (sym (decimal_is digits n (number.0, decimal_of.1, number.2) decimal_of.2)));
  narrow = decimal_of.2;
  ends = span.ends;
}

-- the sign and the digits behind it are those of the literal that stands there
pub literal_span : (line unsigned digits rest : List ℕ) (p : Bool) (l : Lit) (d r : List ℕ) → line ≡ sign p ++ unsigned
    → (p ≡ true → (x : List ℕ) → line ≡ sign false ++ x → ⊥) → IsSpan is_decimal_digit unsigned digits rest → BeginsLiteral line l d r
    → (digits ≡ d) × (rest ≡ 32 ∷ r)
literal_span line unsigned digits rest p l d r e positive span begins = by p l.positive e positive begins.spelled
  where
    split : unsigned ≡ d ++ 32 ∷ r → (digits ≡ d) × (rest ≡ 32 ∷ r)
    split same = one_number digits rest d (32 ∷ r) (passed_are_digits digits span.passes) begins.number.0.1 span.ends (space_ends r) (sym span.spelled ∙ same)

    by : (p q : Bool) → line ≡ sign p ++ unsigned → (p ≡ true → (x : List ℕ) → line ≡ sign false ++ x → ⊥) → line ≡ sign q ++ d ++ 32 ∷ r → (digits ≡ d) × (rest ≡ 32 ∷ r)
    by true true e none is = split (sym e ∙ is)
    by true false e none is = absurd (none refl (d ++ 32 ∷ r) is)
    by false true e none is = absurd (no_minus d (32 ∷ r) unsigned begins.number.0 (sym is ∙ e))
    by false false e none is = split (cons_tail 45 unsigned (d ++ 32 ∷ r) (sym e ∙ is))

-- what stands behind the first number of the line of a formula
pub no_second : (line bytes : List ℕ) (v : ℕ) (rest : List ℕ) → line ≡ codes "formula" ++ bytes → BeginsNumber bytes v rest
    → ((n : ℕ) (r : List ℕ) → BeginsNumber rest n r → ⊥) → (vars clauses : ℕ) → vars ≤ 4294967295 → clauses ≤ 4294967295 → line ≡ formula_line vars clauses → ⊥
no_second line bytes v rest e begins none vars clauses small small' is =
    let cut : numbers_text (vars ∷ clauses ∷ []) ≡ 32 ∷ decimal v ++ rest =
    append_cancel_left (codes "formula") (numbers_text (vars ∷ clauses ∷ [])) bytes (sym is ∙ e) ∙ begins.spelled in
    let first = one_first vars (clauses ∷ []) v rest small begins.narrow begins.ends cut in
    none clauses [] (record { spelled = sym first.1 ∙ flat_map-cons (λ k. 32 ∷ decimal k) clauses []; narrow = small'; ends = numbers_end [] })

pub no_third : (line bytes : List ℕ) (v : ℕ) (rest : List ℕ) (c : ℕ) (end : List ℕ) → line ≡ codes "formula" ++ bytes → BeginsNumber bytes v rest
    → BeginsNumber rest c end → 0 < length end → (vars clauses : ℕ) → vars ≤ 4294967295 → clauses ≤ 4294967295 → line ≡ formula_line vars clauses → ⊥
no_third line bytes v rest c end e begins others some vars clauses small small' is =
    let cut : numbers_text (vars ∷ clauses ∷ []) ≡ 32 ∷ decimal v ++ rest =
    append_cancel_left (codes "formula") (numbers_text (vars ∷ clauses ∷ [])) bytes (sym is ∙ e) ∙ begins.spelled in
    let first = one_first vars (clauses ∷ []) v rest small begins.narrow begins.ends cut in
    let second = one_first clauses [] c end small' others.narrow others.ends (first.1 ∙ others.spelled) in
    omega (arith, some, ap (λ (l : List ℕ). length l) second.1)
