-- How lines of visible bytes are cut off a file.
use Rattle.std.proofs.Common.{◌≡◌, ℕ, ◌<◌, ◌≤◌, ◌^◌, ◌/◌, ◌%◌, ◌==◌, ◌&&◌, nat_le, List, [], ◌∷◌, ◌++◌, Bool, true, false, refl, ◌∙◌, ap, arith}
use Rattle.std.specs.Prelude.{if◌then◌else◌, decimal}
use Rattle.std.specs.Str.Parse.{AllDigits}
use Rattle.std.specs.List.{list_all, flat_map, onto_first}
use Rattle.std.proofs.lemmas.Bool.Decides.{nat_tests}
use Rattle.std.proofs.lemmas.List.Folds.{list_all-append}
use Rattle.std.proofs.lemmas.Str.Parse.{digit_from_value}
use Rattle.std.proofs.lemmas.Fmt.{digits_decimal}
use Rattle.text_scan.specs.Bytes.{is_name_byte, is_path_byte, is_first_byte}
use Rattle.text_scan.specs.Forms.{is_word}
use Rattle.text_scan.specs.Lines.{lines_of, feed_is_first}
use Rattle.litmus_syntax.specs.Texts.{path_text, quoted, byte_text, hex_digit}
use Rattle.litmus_syntax.specs.Forms.{is_formed_path}
use Rattle.litmus_round_trip.proofs.Pieces.{left, right, both_hold, our_numerals}
use Rattle.litmus_round_trip.proofs.Paths.{slashed, slashed_in_path}

abbrev pub visible_byte : ℕ → Bool
visible_byte b = nat_le 32 b

-- no byte is a control character
abbrev pub Visible : List ℕ → Type 0
Visible bytes = list_all visible_byte bytes ≡ true

no_feed : (b : ℕ) → nat_le 32 b ≡ true → b == 10 ≡ false
no_feed b told = grind (arith, nat_tests)

no_return : (b : ℕ) → nat_le 32 b ≡ true → b == 13 ≡ false
no_return b told = grind (arith, nat_tests)

-- a line of visible bytes ends at its line feed
pub line_cut : (line rest : List ℕ) → Visible line → lines_of (line ++ 10 ∷ rest) ≡ line ∷ lines_of rest
line_cut [] rest seen = refl
line_cut (b ∷ bs) rest seen =
    let here : nat_le 32 b ≡ true = left (visible_byte b) (list_all visible_byte bs) seen in
    let others : List ℕ = bs ++ 10 ∷ rest in
    ap (λ (t : Bool). if t then [] ∷ lines_of others else (if b == 13 && feed_is_first others then lines_of others else onto_first b (lines_of others))) (no_feed b here)
    ∙ ap (λ (t : Bool). if t && feed_is_first others then lines_of others else onto_first b (lines_of others)) (no_return b here)
    ∙ ap (onto_first b) (line_cut bs rest (right (visible_byte b) (list_all visible_byte bs) seen))

pub seen_both : (xs ys : List ℕ) → Visible xs → Visible ys → Visible (xs ++ ys)
seen_both xs ys x y = list_all-append visible_byte xs ys ∙ both_hold (list_all visible_byte xs) (list_all visible_byte ys) x y

-- bytes of a kind that is visible are visible
seen_all : (p : ℕ → Bool) → ((b : ℕ) → p b ≡ true → visible_byte b ≡ true) → (bs : List ℕ) → list_all p bs ≡ true → Visible bs
seen_all p sees [] all = refl
seen_all p sees (b ∷ bs) all = both_hold (visible_byte b) (list_all visible_byte bs) (sees b (left (p b) (list_all p bs) all)) (seen_all p sees bs (right (p b) (list_all p bs) all))

name_seen : (b : ℕ) → is_name_byte b ≡ true → visible_byte b ≡ true
name_seen b told = grind (arith, nat_tests)

path_seen : (b : ℕ) → is_path_byte b ≡ true → visible_byte b ≡ true
path_seen b told = grind (arith, nat_tests)

first_seen : (b : ℕ) → is_first_byte b ≡ true → visible_byte b ≡ true
first_seen b told = grind (arith, nat_tests)

pub seen_word : (w : List ℕ) → is_word w ≡ true → Visible w
seen_word [] form = refl
seen_word (b ∷ bs) form =
    both_hold (visible_byte b) (list_all visible_byte bs) (first_seen b (left (is_first_byte b) (list_all is_name_byte bs) form))
    (seen_all is_name_byte name_seen bs (right (is_first_byte b) (list_all is_name_byte bs) form))

pub seen_path : (path : List (List ℕ)) → is_formed_path path ≡ true → Visible (path_text path)
seen_path [] form = refl
seen_path (n ∷ ns) form = seen_all is_path_byte path_seen (slashed (n ∷ ns)) (slashed_in_path (n ∷ ns) form)

hex_seen : (v : ℕ) → visible_byte (hex_digit v) ≡ true
hex_seen v = grind (arith, nat_tests)

seen_else : (b x y : ℕ) → visible_byte x ≡ true → visible_byte y ≡ true → (range : Bool) → nat_le 32 b && nat_le b 126 ≡ range → Visible (if range then b ∷ [] else 92 ∷ 120 ∷ x ∷ y ∷ [])
seen_else b x y one two true told = both_hold (visible_byte b) true (left (nat_le 32 b) (nat_le b 126) told) refl
seen_else b x y one two false told = both_hold (visible_byte x) (visible_byte y && true) one (both_hold (visible_byte y) true two refl)

seen_if : (t : Bool) (xs ys : List ℕ) → Visible xs → Visible ys → Visible (if t then xs else ys)
seen_if true xs ys x y = x
seen_if false xs ys x y = y

seen_byte : (b : ℕ) → Visible (byte_text b)
seen_byte b =
    seen_if (b == 92) (92 ∷ 92 ∷ []) _ refl (seen_if (b == 34) (92 ∷ 34 ∷ []) _ refl (seen_if (b == 10) (92 ∷ 110 ∷ []) _ refl
    (seen_else b (hex_digit (b / 16)) (hex_digit (b % 16)) (hex_seen (b / 16)) (hex_seen (b % 16)) (nat_le 32 b && nat_le b 126) refl)))

seen_bytes : (text : List ℕ) → Visible (flat_map byte_text text)
seen_bytes [] = refl
seen_bytes (b ∷ bs) = seen_both (byte_text b) (flat_map byte_text bs) (seen_byte b) (seen_bytes bs)

pub seen_text : (text : List ℕ) → Visible (quoted text)
seen_text text = seen_both (34 ∷ flat_map byte_text text) (34 ∷ []) (seen_bytes text) refl

seen_digits : (ds : List ℕ) → AllDigits 10 ds → Visible ds
seen_digits [] all = refl
seen_digits (d ∷ ds) all = let range = digit_from_value d all.0 in both_hold (visible_byte d) (list_all visible_byte ds) (low d range.0) (seen_digits ds all.1)
  where
    low : (b : ℕ) → 48 ≤ b → nat_le 32 b ≡ true
    low b least = grind (arith, nat_tests)

pub seen_number : (n : ℕ) → n < 2 ^ 32 → Visible (decimal n)
seen_number n small = let fits : n < 2 ^ 64 = omega (arith, small) in seen_digits (decimal n) (digits_decimal our_numerals n fits)
