-- How words, numbers, paths and signs are read as they are written.
use Rattle.std.proofs.Common.{◌≡◌, ℕ, ◌+◌, ◌-◌, ◌*◌, ◌<◌, ◌≤◌, ◌^◌, ◌==◌, IsTrue, ◌&&◌, List, [], ◌∷◌, ◌++◌, length, cond, Bool, true, false, Option, Some, None, refl, sym, ◌∙◌, ap, subst, arith}
use Rattle.std.specs.Prelude.{⊤, if◌then◌else◌, decimal, fold}
use Rattle.std.specs.List.{prefix_len, list_all}
use Rattle.std.specs.Str.Parse.{AllDigits}
use Rattle.std.proofs.lemmas.Bool.{lt-ltb}
use Rattle.std.proofs.lemmas.Bool.Decides.{nat_tests}
use Rattle.std.proofs.lemmas.Str.Parse.{IsNumeralModel, numerals_by_fold, tells_digits, digit_from_value}
use Rattle.std.proofs.lemmas.Fmt.{digits_decimal, digits_value-decimal, decimal_is_IsNumeral}
use Rattle.text_scan.specs.declared.scanning.TokenKind.{TokenKind}
use Rattle.text_scan.specs.declared.scanning.TokenKind.TheVariants as kind
use Rattle.text_scan.specs.Bytes.{is_first_byte, is_name_byte, is_digit, is_sign, is_blank}
use Rattle.text_scan.specs.Forms.{is_word, HasForm}
use Rattle.text_scan.specs.Kinds.{kind_of, len_behind, token_len}
use Rattle.lexeme_reader.specs.declared.reading.Lexeme.{Lexeme}
use Rattle.lexeme_reader.specs.declared.reading.Lexeme.TheVariants as says
use Rattle.lexeme_reader.specs.Lexemes.{digits_value, narrowed}
use Rattle.litmus_round_trip.proofs.Reading.{Reads, IsLongest, reads_token}

pub left : (a b : Bool) → a && b ≡ true → a ≡ true
left true b e = refl
left false b e = cc

pub right : (a b : Bool) → a && b ≡ true → b ≡ true
right true b e = e
right false b e = cc

-- the bytes don't begin with one of these
abbrev pub Stops : (ℕ → Bool) → List ℕ → Type 0
Stops p [] = ⊤
Stops p (b ∷ bs) = p b ≡ false

pub prefix_whole : (p : ℕ → Bool) (xs rest : List ℕ) → list_all p xs ≡ true → Stops p rest → prefix_len p (xs ++ rest) ≡ length xs
prefix_whole p [] [] all stops = refl
prefix_whole p [] (b ∷ bs) all stops = ap (λ (t : Bool). cond t (1 + prefix_len p bs) 0) stops
prefix_whole p (x ∷ xs) rest all stops =
    let here : prefix_len p (x ∷ (xs ++ rest)) ≡ 1 + prefix_len p (xs ++ rest) =
    ap (λ (t : Bool). cond t (1 + prefix_len p (xs ++ rest)) 0) (left (p x) (list_all p xs) all) in
    let behind = prefix_whole p xs rest (right (p x) (list_all p xs) all) stops in
    omega (arith, here, behind)

unblank_front : (b : ℕ) (bs : List ℕ) → is_blank b ≡ false → prefix_len is_blank (b ∷ bs) ≡ 0
unblank_front b bs none = ap (λ (t : Bool). cond t (1 + prefix_len is_blank bs) 0) none

-- a token whose first byte tells its kind
pub taken : (k : TokenKind) (b : ℕ) (bs rest : List ℕ) → kind_of b ≡ Some k → is_blank b ≡ false → len_behind (Some k) (bs ++ rest) ≡ length bs
    → HasForm k (b ∷ bs) → IsLongest k (b ∷ bs) rest
taken k b bs rest is unblank long form = record {
  first = is;
  whole = let here : token_len (b ∷ (bs ++ rest)) ≡ 1 + len_behind (Some k) (bs ++ rest) = ap (λ (o : Option TokenKind). 1 + len_behind o (bs ++ rest)) is in
      omega (arith, here, long);
  form = form;
  unblank = unblank_front b (bs ++ rest) unblank;
}

word_kind : (b : ℕ) → is_first_byte b ≡ true → kind_of b ≡ Some kind.Word
word_kind b first =
    ap (λ (t : Bool). if t then Some kind.Word else (if is_digit b then Some kind.Number else (if b == 47 then Some kind.PathToken else (if b == 34 then Some kind.TextToken else (if is_sign b then Some kind.Sign else None))))) first

first_unblank : (b : ℕ) → is_first_byte b ≡ true → is_blank b ≡ false
first_unblank b first = grind (arith, nat_tests)

-- a word, before something that is no part of it
pub reads_word : (w rest : List ℕ) (ls : List Lexeme) → IsTrue (is_word w) → Stops is_name_byte rest → Reads rest ls → Reads (w ++ rest) (says.Word w ∷ ls)
reads_word [] rest ls form stops reads = cc
reads_word (b ∷ bs) rest ls form stops reads =
    let first : is_first_byte b ≡ true = left (is_first_byte b) (list_all is_name_byte bs) form in
    let names : list_all is_name_byte bs ≡ true = right (is_first_byte b) (list_all is_name_byte bs) form in
    reads_token kind.Word (b ∷ bs) rest (says.Word (b ∷ bs)) ls
    (taken kind.Word b bs rest (word_kind b first) (first_unblank b first) (prefix_whole is_name_byte bs rest names stops) form) refl reads

-- the value of digits, as the numerals of std have it
pub our_numerals : IsNumeralModel (AllDigits 10) (λ ds. digits_value ds)
our_numerals = numerals_by_fold (AllDigits 10) tells_digits (λ n ds. fold (λ value digit. 10 * value + (digit - 48)) n ds)
    (record {
      empty = λ n. refl;
      more = λ n c cs range.
          let same : 10 * n + (c - 48) ≡ n * 10 + (c - 48) = omega arith in
          ap (λ (m : ℕ). fold (λ value digit. 10 * value + (digit - 48)) m cs) same;
    })

number_kind : (b : ℕ) → 48 ≤ b → b ≤ 57 → kind_of b ≡ Some kind.Number
number_kind b low high =
    let other : is_first_byte b ≡ false = grind (arith, nat_tests) in
    let digit : is_digit b ≡ true = grind (arith, nat_tests) in
    ap (λ (t : Bool). if t then Some kind.Word else (if is_digit b then Some kind.Number else (if b == 47 then Some kind.PathToken else (if b == 34 then Some kind.TextToken else (if is_sign b then Some kind.Sign else None))))) other
    ∙ ap (λ (t : Bool). if t then Some kind.Number else (if b == 47 then Some kind.PathToken else (if b == 34 then Some kind.TextToken else (if is_sign b then Some kind.Sign else None)))) digit

digit_told : (b : ℕ) → 48 ≤ b → b ≤ 57 → is_digit b ≡ true
digit_told b low high = grind (arith, nat_tests)

name_told : (b : ℕ) → 48 ≤ b → b ≤ 57 → is_name_byte b ≡ true
name_told b low high = grind (arith, nat_tests)

digit_unblank : (b : ℕ) → 48 ≤ b → b ≤ 57 → is_blank b ≡ false
digit_unblank b low high = grind (arith, nat_tests)

pub both_hold : (a b : Bool) → a ≡ true → b ≡ true → a && b ≡ true
both_hold a b x y = ap (λ (t : Bool). t && b) x ∙ y

digits_hold : (ds : List ℕ) → AllDigits 10 ds → (list_all is_digit ds ≡ true) × (list_all is_name_byte ds ≡ true)
digits_hold [] all = (refl, refl)
digits_hold (d ∷ ds) all =
    let range = digit_from_value d all.0 in
    let others = digits_hold ds all.1 in
    (both_hold (is_digit d) (list_all is_digit ds) (digit_told d range.0 range.1) others.0, both_hold (is_name_byte d) (list_all is_name_byte ds) (name_told d range.0 range.1) others.1)

reads_digits : (ds rest : List ℕ) (n : ℕ) (ls : List Lexeme) → AllDigits 10 ds → 0 < length ds → digits_value ds ≡ n → Stops is_name_byte rest → Reads rest ls → Reads (ds ++ rest) (says.Number (narrowed n) ∷ ls)
reads_digits [] rest n ls all some value stops reads = absurd (omega (arith, some))
reads_digits (d ∷ ds) rest n ls all some value stops reads =
    let range = digit_from_value d all.0 in
    let behind = digits_hold ds all.1 in
    let whole = digits_hold (d ∷ ds) all in
    reads_token kind.Number (d ∷ ds) rest (says.Number (narrowed n)) ls
    (taken kind.Number d ds rest (number_kind d range.0 range.1) (digit_unblank d range.0 range.1) (prefix_whole is_name_byte ds rest behind.1 stops) whole.0)
    (ap (λ (m : ℕ). says.Number (narrowed m)) (sym value)) reads

-- a number in decimal digits
pub reads_any_number : (n : ℕ) (rest : List ℕ) (ls : List Lexeme) → n < 2 ^ 32 → Stops is_name_byte rest → Reads rest ls → Reads (decimal n ++ rest) (says.Number (narrowed n) ∷ ls)
reads_any_number n rest ls small stops reads =
    let fits : n < 2 ^ 64 = omega (arith, small) in
    reads_digits (decimal n) rest n ls (digits_decimal our_numerals n fits) (decimal_is_IsNumeral n fits).0.0 (digits_value-decimal our_numerals n fits) stops reads

pub reads_number : (n : ℕ) (rest : List ℕ) (ls : List Lexeme) → n < 2 ^ 32 → Stops is_name_byte rest → Reads rest ls → Reads (decimal n ++ rest) (says.Number (Some n) ∷ ls)
reads_number n rest ls small stops reads =
    let narrow : narrowed n ≡ Some n = ap (λ (t : Bool). if t then Some n else None) (lt-ltb n (2 ^ 32) small) in
    subst (λ (o : Option ℕ). Reads (decimal n ++ rest) (says.Number o ∷ ls)) narrow (reads_any_number n rest ls small stops reads)

-- a sign
pub reads_sign : (s : ℕ) (rest : List ℕ) (ls : List Lexeme) → kind_of s ≡ Some kind.Sign → is_sign s ≡ true → is_blank s ≡ false → Reads rest ls → Reads (s ∷ rest) (says.Sign s ∷ ls)
reads_sign s rest ls is sign unblank reads =
    reads_token kind.Sign (s ∷ []) rest (says.Sign s) ls (taken kind.Sign s [] rest is unblank refl (both_hold (is_sign s) true sign refl)) (s, refl, refl) reads
