-- How texts are read as they are written.
use Rattle.std.proofs.Common.{◌≡◌, ◌≢◌, ℕ, ◌+◌, ◌*◌, ◌/◌, ◌%◌, ◌<◌, ◌==◌, IsTrue, ◌&&◌, nat_le, nat_lt, List, [], ◌∷◌, ◌++◌, length, Bool, true, false, not, Some, refl, sym, ◌∙◌, ap, subst, arith, append_assoc, length-append}
use Rattle.std.specs.Prelude.{if◌then◌else◌}
use Rattle.std.specs.List.{flat_map}
use Rattle.std.proofs.lemmas.Bool.{ne_eqb, eqb-true, eqb-false}
use Rattle.std.proofs.lemmas.Bool.Decides.{nat_tests}
use Rattle.text_scan.specs.declared.scanning.TokenKind.TheVariants as kind
use Rattle.text_scan.specs.Bytes.{is_hex_digit, is_line_byte}
use Rattle.text_scan.specs.Items.{escaped, hex_value, IsItem, plain, short, hex, Spells, IsTextOf}
use Rattle.text_scan.specs.Texts.{text_len}
use Rattle.litmus_syntax.specs.Texts.{hex_digit, byte_text, quoted}
use Rattle.litmus_syntax.specs.Forms.{is_byte_text}
use Rattle.lexeme_reader.specs.declared.reading.Lexeme.{Lexeme}
use Rattle.lexeme_reader.specs.declared.reading.Lexeme.TheVariants as says
use Rattle.litmus_round_trip.proofs.Reading.{Reads, reads_token}
use Rattle.litmus_round_trip.proofs.Pieces.{left, right, both_hold, taken}

-- what is written for a byte is an item, which a text goes past
record IsSpelled (b : ℕ) (item : List ℕ) : Type 0 where
  is : IsItem item b
  past : (rest : List ℕ) → text_len (item ++ rest) ≡ length item + text_len rest

past_one : (b : ℕ) (rest : List ℕ) → b ≢ 34 → b ≢ 92 → text_len (b ∷ rest) ≡ 1 + text_len rest
past_one b [] quote backslash = refl
past_one b (c ∷ rest) quote backslash =
    ap (λ (t : Bool). if t then 1 else (if b == 92 then 2 + text_len rest else 1 + text_len (c ∷ rest))) (ne_eqb b 34 quote)
    ∙ ap (λ (t : Bool). if t then 2 + text_len rest else 1 + text_len (c ∷ rest)) (ne_eqb b 92 backslash)

-- a quote ends a text
past_end : (rest : List ℕ) → text_len (34 ∷ rest) ≡ 1
past_end [] = refl
past_end (c ∷ rest) = refl

spelled_plain : (b : ℕ) → b ≢ 34 → b ≢ 92 → nat_le 32 b && nat_le b 126 ≡ true → IsSpelled b (b ∷ [])
spelled_plain b quote backslash range = record {
  is = plain
      (let line : is_line_byte b ≡ true = grind (arith, nat_tests) in
      let one : not (b == 34) ≡ true = ap not (ne_eqb b 34 quote) in
      let two : not (b == 92) ≡ true = ap not (ne_eqb b 92 backslash) in
      both_hold (is_line_byte b && not (b == 34)) (not (b == 92)) (both_hold (is_line_byte b) (not (b == 34)) line one) two)
      refl;
  past = λ rest. past_one b rest quote backslash;
}

spelled_short : (c b : ℕ) → escaped c ≡ Some b → IsSpelled b (92 ∷ c ∷ [])
spelled_short c b means = record { is = short c means refl; past = λ rest. omega arith }

hex_of : (v : ℕ) → v < 16 → (is_hex_digit (hex_digit v) ≡ true) × (hex_value (hex_digit v) ≡ v) × (hex_digit v ≢ 34) × (hex_digit v ≢ 92)
hex_of v small = (grind (arith, nat_tests), grind (arith, nat_tests), λ e. grind (arith, nat_tests), λ e. grind (arith, nat_tests))

spelled_hex : (b : ℕ) → b < 256 → IsSpelled b (92 ∷ 120 ∷ hex_digit (b / 16) ∷ hex_digit (b % 16) ∷ [])
spelled_hex b small =
    let high = hex_of (b / 16) (omega arith) in
    let low = hex_of (b % 16) (omega arith) in
    let value : b ≡ 16 * hex_value (hex_digit (b / 16)) + hex_value (hex_digit (b % 16)) = let x = high.1 in let y = low.1 in omega (arith, x, y) in
    record {
      is = hex (hex_digit (b / 16)) (hex_digit (b % 16)) high.0 low.0 value refl;
      past = λ rest.
          let one = past_one (hex_digit (b / 16)) (hex_digit (b % 16) ∷ rest) high.2 high.3 in
          let two = past_one (hex_digit (b % 16)) rest low.2 low.3 in
          omega (arith, one, two);
    }

differs : (b c : ℕ) → b == c ≡ false → b ≢ c
differs b c told = eqb-false b c told

-- each byte of a text is written as one item
spelled_else : (b : ℕ) → b < 256 → b ≢ 34 → b ≢ 92 → (range : Bool) → nat_le 32 b && nat_le b 126 ≡ range
    → IsSpelled b (if range then b ∷ [] else 92 ∷ 120 ∷ hex_digit (b / 16) ∷ hex_digit (b % 16) ∷ [])
spelled_else b small quote backslash true told = spelled_plain b quote backslash told
spelled_else b small quote backslash false told = spelled_hex b small

spelled_feed : (b : ℕ) → b < 256 → b ≢ 34 → b ≢ 92 → (feed : Bool) → b == 10 ≡ feed
    → IsSpelled b (if feed then 92 ∷ 110 ∷ [] else (if nat_le 32 b && nat_le b 126 then b ∷ [] else 92 ∷ 120 ∷ hex_digit (b / 16) ∷ hex_digit (b % 16) ∷ []))
spelled_feed b small quote backslash true told = subst (λ (x : ℕ). IsSpelled x (92 ∷ 110 ∷ [])) (sym (eqb-true b 10 told)) (spelled_short 110 10 refl)
spelled_feed b small quote backslash false told = spelled_else b small quote backslash (nat_le 32 b && nat_le b 126) refl

spelled_quote : (b : ℕ) → b < 256 → b ≢ 92 → (quote : Bool) → b == 34 ≡ quote
    → IsSpelled b (if quote then 92 ∷ 34 ∷ [] else (if b == 10 then 92 ∷ 110 ∷ [] else (if nat_le 32 b && nat_le b 126 then b ∷ [] else 92 ∷ 120 ∷ hex_digit (b / 16) ∷ hex_digit (b % 16) ∷ [])))
spelled_quote b small backslash true told = subst (λ (x : ℕ). IsSpelled x (92 ∷ 34 ∷ [])) (sym (eqb-true b 34 told)) (spelled_short 34 34 refl)
spelled_quote b small backslash false told = spelled_feed b small (differs b 34 told) backslash (b == 10) refl

spelled_backslash : (b : ℕ) → b < 256 → (backslash : Bool) → b == 92 ≡ backslash
    → IsSpelled b (if backslash then 92 ∷ 92 ∷ [] else (if b == 34 then 92 ∷ 34 ∷ [] else (if b == 10 then 92 ∷ 110 ∷ [] else (if nat_le 32 b && nat_le b 126 then b ∷ [] else 92 ∷ 120 ∷ hex_digit (b / 16) ∷ hex_digit (b % 16) ∷ []))))
spelled_backslash b small true told = subst (λ (x : ℕ). IsSpelled x (92 ∷ 92 ∷ [])) (sym (eqb-true b 92 told)) (spelled_short 92 92 refl)
spelled_backslash b small false told = spelled_quote b small (differs b 92 told) (b == 34) refl

spelled : (b : ℕ) → b < 256 → IsSpelled b (byte_text b)
spelled b small = spelled_backslash b small (b == 92) refl

byte_small : (b : ℕ) → nat_lt b 256 ≡ true → b < 256
byte_small b told = grind (arith, nat_tests)

-- a text in its quotes spells its bytes
spells : (text : List ℕ) → is_byte_text text ≡ true → Spells (flat_map byte_text text ++ 34 ∷ []) text
spells [] all = refl
spells (b ∷ bs) all = (
  byte_text b,
  flat_map byte_text bs ++ 34 ∷ [],
  append_assoc (byte_text b) (flat_map byte_text bs) (34 ∷ []),
  (spelled b (byte_small b (left (nat_lt b 256) (is_byte_text bs) all))).is,
  spells bs (right (nat_lt b 256) (is_byte_text bs) all),
)

-- and ends at its closing quote
ends : (text rest : List ℕ) → is_byte_text text ≡ true → text_len ((flat_map byte_text text ++ 34 ∷ []) ++ rest) ≡ length (flat_map byte_text text ++ 34 ∷ [])
ends [] rest all = past_end rest
ends (b ∷ bs) rest all =
    let here = spelled b (byte_small b (left (nat_lt b 256) (is_byte_text bs) all)) in
    let behind = ends bs rest (right (nat_lt b 256) (is_byte_text bs) all) in
    let first : List ℕ = byte_text b in
    let others : List ℕ = flat_map byte_text bs ++ 34 ∷ [] in
    let cut : (first ++ flat_map byte_text bs) ++ 34 ∷ [] ≡ first ++ others = append_assoc first (flat_map byte_text bs) (34 ∷ []) in
    let shape : ((first ++ flat_map byte_text bs) ++ 34 ∷ []) ++ rest ≡ first ++ (others ++ rest) = ap (λ (x : List ℕ). x ++ rest) cut ∙ append_assoc first others rest in
    let long : length ((first ++ flat_map byte_text bs) ++ 34 ∷ []) ≡ length first + length others = ap length cut ∙ length-append first others in
    let past : text_len (first ++ (others ++ rest)) ≡ length first + text_len (others ++ rest) = here.past (others ++ rest) in
    let moved : text_len (((first ++ flat_map byte_text bs) ++ 34 ∷ []) ++ rest) ≡ text_len (first ++ (others ++ rest)) = ap (text_len) shape in
    omega (arith, moved, past, behind, long)

-- a text in its quotes
pub reads_text : (text rest : List ℕ) (ls : List Lexeme) → IsTrue (is_byte_text text) → Reads rest ls → Reads (quoted text ++ rest) (says.Text text ∷ ls)
reads_text text rest ls form reads =
    let tail : List ℕ = flat_map byte_text text ++ 34 ∷ [] in
    let is : IsTextOf (34 ∷ tail) text = (tail, refl, spells text form) in
    reads_token kind.TextToken (34 ∷ tail) rest (says.Text text) ls (taken kind.TextToken 34 tail rest refl refl (ends text rest form) (text, is)) (text, is, refl) reads
