-- Names that end in a number have their forms.
use Rattle.std.proofs.Common.{◌≡◌, ℕ, suc, ◌<◌, ◌≤◌, ◌^◌, Bool, true, false, List, [], ◌∷◌, length, refl, ap, arith, ◌∙◌, ◌&&◌}
use Rattle.std.specs.Prelude.{decimal, nat_le, bytes_eq, codes}
use Rattle.std.specs.List.{list_all}
use Rattle.std.specs.Str.Parse.{AllDigits}
use Rattle.std.proofs.lemmas.Fmt.{decimal_is_IsNumeral, length-decimal-le}
use Rattle.std.proofs.lemmas.Str.Parse.{digit_from_value}
use Rattle.std.proofs.lemmas.Bool.Decides.{nat_tests}
use Rattle.text_scan.specs.Forms.{is_word, is_component}
use Rattle.text_scan.specs.Bytes.{is_name_byte}
use Rattle.litmus_syntax.specs.Forms.{is_formed_path}
use Rattle.model_library.specs.Generated.{numbered, path_of}

pub both : (a b : Bool) → a ≡ true → b ≡ true → a && b ≡ true
both a b x y = ap (λ (t : Bool). t && b) x ∙ y

digit_named : (b : ℕ) → 48 ≤ b → b ≤ 57 → is_name_byte b ≡ true
digit_named b low high = grind (arith, nat_tests)

digits_named : (ds : List ℕ) → AllDigits 10 ds → list_all is_name_byte ds ≡ true
digits_named [] all = refl
digits_named (d ∷ ds) all =
    let range = digit_from_value d all.0 in
    both (is_name_byte d) (list_all is_name_byte ds) (digit_named d range.0 range.1) (digits_named ds all.1)

decimal_named : (n : ℕ) → n < 2 ^ 32 → list_all is_name_byte (decimal n) ≡ true
decimal_named n small = digits_named (decimal n) (decimal_is_IsNumeral n (omega (arith, small))).0.1

-- a word that ends in a number
pub mark_word : (n : ℕ) → n < 2 ^ 32 → is_word (numbered 109 n) ≡ true
mark_word n small = decimal_named n small

short_name : (n : ℕ) → n < 2 ^ 32 → nat_le (suc (length (decimal n))) 64 ≡ true
short_name n small =
    let len = length-decimal-le 10 n (omega arith) (omega (arith, small)) (omega (arith, small)) in
    grind (arith, nat_tests, len)

-- a path that ends in a number
component : (letter n : ℕ) → n < 2 ^ 32 → is_name_byte letter ≡ true → bytes_eq (letter ∷ decimal n) (codes ".") ≡ false → bytes_eq (letter ∷ decimal n) (codes "..") ≡ false
    → is_component (letter ∷ decimal n) ≡ true
component letter n small named one two =
    let short = short_name n small in
    let rest = decimal_named n small in
    grind (arith, nat_tests, short, rest, named, one, two)

pub file_path : (n : ℕ) → n < 2 ^ 32 → is_formed_path (path_of (numbered 110 n)) ≡ true
file_path n small = both (is_component (numbered 110 n)) true (component 110 n small refl refl refl) refl

pub link_path : (n : ℕ) → n < 2 ^ 32 → is_formed_path (path_of (numbered 108 n)) ≡ true
link_path n small = both (is_component (numbered 108 n)) true (component 108 n small refl refl refl) refl
