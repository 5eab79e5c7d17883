-- The numbers at the front of bytes are read in one way.
use Rattle.std.proofs.Common.{◌≡◌, ℕ, zero, suc, ◌+◌, ◌<◌, true, false, eqb, List, [], ◌∷◌, ◌++◌, length, take, get_or, min, ◌-◌, ◌*◌, refl, sym, ◌∙◌, ap, subst, arith}
use Rattle.std.specs.List.{All}
use Rattle.std.specs.Char.{digit_value}
use Rattle.std.specs.Str.Parse.{AllDigits, digits_value}
use Rattle.std.proofs.lemmas.Bool.{eq-eqb, ne_eqb, eqb-true, ltb-true}
use Rattle.std.proofs.lemmas.Bool.Decides.{nat_tests}
use Rattle.std.proofs.lemmas.List.{append_assoc, append-nil, length-append}
use Rattle.std.proofs.lemmas.List.Elements.{All-nil, All-cons, All-head, All-tail, All-weaker}
use Rattle.std.proofs.lemmas.Int.Digits.{digits_value_more}
use Rattle.std.proofs.lemmas.Str.{digit_value_digit}
use Rattle.std.proofs.lemmas.Str.Parse.{digit_from_value}
use Rattle.numerals.specs.Numbers.{IsDecimal}
use Rattle.witness_replay.specs.CrashFiles.{AreSpaces, AreNumbers}
use Rattle.witness_replay.specs.CrashFiles.AreNumbers.{none, more}
use Rattle.numerals.specs.Spans.{is_decimal_digit, StartsNot}
use Rattle.witness_replay.specs.Spans.{is_space, BeginsNumber, HasNumbers}
use Rattle.numerals.proofs.Digits.{digits_pass}
use Rattle.numerals.proofs.GeneralSpans.{one_span}

pub spaces_pass : (bytes : List ℕ) → All (λ b. b ≡ 32) bytes → All (λ b. is_space b ≡ true) bytes
spaces_pass bytes all = All-weaker (λ b. b ≡ 32) (λ b. is_space b ≡ true) (λ b e. eq-eqb b 32 e) bytes all

pub passed_are_spaces : (bytes : List ℕ) → All (λ b. is_space b ≡ true) bytes → All (λ b. b ≡ 32) bytes
passed_are_spaces bytes all = All-weaker (λ b. is_space b ≡ true) (λ b. b ≡ 32) (λ b e. eqb-true b 32 e) bytes all

-- a digit is no space
digit_no_space : (b : ℕ) → digit_value b < 10 → is_space b ≡ false
digit_no_space b less = ne_eqb b 32 (λ e. let at : digit_value b ≡ 36 = ap digit_value e in omega (arith, less, at))

pub digits_start : (digits rest : List ℕ) → 0 < length digits → AllDigits 10 digits → StartsNot is_space (digits ++ rest)
digits_start [] rest some all = absurd (omega arith)
digits_start (d ∷ ds) rest some all = λ b bs e. let same : d ≡ b = cc in sym (ap is_space same) ∙ digit_no_space d all.0

pub spaces_start : (spaces rest : List ℕ) → AreSpaces spaces → StartsNot is_decimal_digit (spaces ++ rest)
spaces_start [] rest are = absurd (omega (arith, are.0))
spaces_start (s ∷ ss) rest are = λ b bs e.
    let same : s ≡ b = cc in
    let space : s ≡ 32 = All-head (λ b. b ≡ 32) s ss are.1 in
    ap is_decimal_digit (sym same ∙ space)

-- one number, and one rest
pub one_number : (bytes : List ℕ) (n : ℕ) (rest : List ℕ) (m : ℕ) (other : List ℕ) → BeginsNumber bytes n rest → BeginsNumber bytes m other → (n ≡ m) × (rest ≡ other)
one_number bytes n rest m other x y =
    let ex : bytes ≡ x.spaces ++ (x.digits ++ rest) = x.spelled ∙ append_assoc x.spaces x.digits rest in
    let ey : bytes ≡ y.spaces ++ (y.digits ++ other) = y.spelled ∙ append_assoc y.spaces y.digits other in
    let first = one_span is_space x.spaces (x.digits ++ rest) y.spaces (y.digits ++ other) (sym ex ∙ ey)
    (spaces_pass x.spaces x.parted.1) (spaces_pass y.spaces y.parted.1)
    (digits_start x.digits rest x.decimal.0.0 x.decimal.0.1) (digits_start y.digits other y.decimal.0.0 y.decimal.0.1) in
    let second = one_span is_decimal_digit x.digits rest y.digits other first.1
    (digits_pass x.digits x.decimal.0.1) (digits_pass y.digits y.decimal.0.1) x.ends y.ends in
    (sym x.decimal.1 ∙ ap (digits_value 10) second.0 ∙ y.decimal.1, second.1)

-- numbers begin with a space
pub numbers_start : (text : List ℕ) (ns rest : List ℕ) → AreNumbers text ns → StartsNot is_decimal_digit rest → StartsNot is_decimal_digit (text ++ rest)
numbers_start text ns rest none ends = ends
numbers_start text ns rest (more spaces digits behind n ms parted decimal others) ends =
    subst (StartsNot is_decimal_digit) (sym (append_assoc (spaces ++ digits) behind rest ∙ append_assoc spaces digits (behind ++ rest)))
    (spaces_start spaces (digits ++ (behind ++ rest)) parted)

-- the first of numbers
first_number : (spaces digits behind rest : List ℕ) (n : ℕ) (ms : List ℕ) → AreSpaces spaces → IsDecimal digits n → AreNumbers behind ms → StartsNot is_decimal_digit rest
    → BeginsNumber ((spaces ++ digits ++ behind) ++ rest) n (behind ++ rest)
first_number spaces digits behind rest n ms parted decimal others ends = record {
  spaces = spaces;
  digits = digits;
  spelled = append_assoc (spaces ++ digits) behind rest;
  parted = parted;
  decimal = decimal;
  ends = numbers_start behind ms rest others ends;
}

-- numbers before something that begins no number are read in one way
pub one_reading :
    (bytes text ns rest text' ns' rest' : List ℕ) → AreNumbers text ns → AreNumbers text' ns' → bytes ≡ text ++ rest → bytes ≡ text' ++ rest'
    → StartsNot is_decimal_digit rest → StartsNot is_decimal_digit rest'
    → ((n : ℕ) (behind : List ℕ) → BeginsNumber rest n behind → ⊥) → ((n : ℕ) (behind : List ℕ) → BeginsNumber rest' n behind → ⊥)
    → (ns ≡ ns') × (rest ≡ rest')
one_reading bytes text ns rest text' ns' rest' none none e e' ends ends' none_then none_then' = (refl, sym e ∙ e')
one_reading bytes text ns rest text' ns' rest' none (more s d r n ms sp de nu) e e' ends ends' none_then none_then' =
    let F : List ℕ → Type 0 = λ l. BeginsNumber l n (r ++ rest') in
    absurd (none_then n (r ++ rest') (subst F (sym e' ∙ e) (first_number s d r rest' n ms sp de nu ends')))
one_reading bytes text ns rest text' ns' rest' (more s d r n ms sp de nu) none e e' ends ends' none_then none_then' =
    let F : List ℕ → Type 0 = λ l. BeginsNumber l n (r ++ rest) in
    absurd (none_then' n (r ++ rest) (subst F (sym e ∙ e') (first_number s d r rest n ms sp de nu ends)))
one_reading bytes text ns rest text' ns' rest' (more s d r n ms sp de nu) (more s' d' r' n' ms' sp' de' nu') e e' ends ends' none_then none_then' =
    let F : List ℕ → Type 0 = λ l. BeginsNumber l n (r ++ rest) in
    let F' : List ℕ → Type 0 = λ l. BeginsNumber l n' (r' ++ rest') in
    let here = one_number bytes n (r ++ rest) n' (r' ++ rest') (subst F (sym e) (first_number s d r rest n ms sp de nu ends)) (subst F' (sym e') (first_number s' d' r' rest' n' ms' sp' de' nu' ends')) in
    let later = one_reading (r ++ rest) r ms rest r' ms' rest' nu nu' refl here.1 ends ends' none_then none_then' in
    (ap (λ (k : ℕ). k ∷ ms) here.0 ∙ ap (λ (l : List ℕ). n' ∷ l) later.0, later.1)

-- one number more behind others
pub numbers_more : (text ns spaces digits : List ℕ) (n : ℕ) → AreNumbers text ns → AreSpaces spaces → IsDecimal digits n → AreNumbers (text ++ (spaces ++ digits)) (ns ++ n ∷ [])
numbers_more text ns spaces digits n none parted decimal =
    subst (λ (l : List ℕ). AreNumbers l (n ∷ [])) (append-nil (spaces ++ digits)) (more spaces digits [] n [] parted decimal none)
numbers_more text ns spaces digits n (more s d r m ms sp de nu) parted decimal =
    subst (λ (l : List ℕ). AreNumbers l (m ∷ (ms ++ n ∷ []))) (sym (append_assoc (s ++ d) r (spaces ++ digits)))
    (more s d (r ++ (spaces ++ digits)) m (ms ++ n ∷ []) sp de (numbers_more r ms spaces digits n nu parted decimal))

pub has_none : (bytes : List ℕ) → HasNumbers bytes [] bytes
has_none bytes = record { text = []; spelled = refl; numbers = none; ends = λ h. h }

pub has_more : (bytes ns rest : List ℕ) (n : ℕ) (behind : List ℕ) → HasNumbers bytes ns rest → BeginsNumber rest n behind → HasNumbers bytes (ns ++ n ∷ []) behind
has_more bytes ns rest n behind has begins = record {
  text = has.text ++ (begins.spaces ++ begins.digits);
  spelled = has.spelled ∙ ap (λ (l : List ℕ). has.text ++ l) begins.spelled ∙ sym (append_assoc has.text (begins.spaces ++ begins.digits) behind);
  numbers = numbers_more has.text ns begins.spaces begins.digits n has.numbers begins.parted begins.decimal;
  ends = λ h. begins.ends;
}

pub number_shorter : (bytes : List ℕ) (n : ℕ) (rest : List ℕ) → BeginsNumber bytes n rest → length rest < length bytes
number_shorter bytes n rest begins = shorter bytes begins.spaces begins.digits rest begins.spelled begins.parted.0
  where
    shorter : (bytes s d rest : List ℕ) → bytes ≡ s ++ d ++ rest → 0 < length s → length rest < length bytes
    shorter bytes s d rest e some = omega (arith, ap (λ (l : List ℕ). length l) e, length-append (s ++ d) rest, length-append s d)
