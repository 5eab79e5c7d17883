-- What a token says has the form of its kind.
use Rattle.std.proofs.Common.{◌≡◌, ℕ, ◌<◌, Bool, true, false, not, ◌&&◌, ◌==◌, List, [], ◌∷◌, Some, None, nat_lt, IsTrue, refl, sym, ◌∙◌, ap, arith}
use Rattle.std.specs.Prelude.{if◌then◌else◌}
use Rattle.std.specs.List.{All, list_all}
use Rattle.std.proofs.lemmas.List.Elements.{All-nil, All-cons, All-head, All-tail}
use Rattle.std.proofs.lemmas.Bool.{and_parts, lt-ltb, and_from}
use Rattle.std.proofs.lemmas.Bool.Decides.{nat_tests}
use Rattle.text_scan.specs.declared.scanning.TokenKind.{TokenKind}
use Rattle.text_scan.specs.declared.scanning.TokenKind.TheVariants as kind
use Rattle.text_scan.specs.declared.scanning.Token.{Token}
use Rattle.text_scan.specs.Bytes.{is_sign, is_hex_digit, is_line_byte}
use Rattle.text_scan.specs.Forms.{components, is_component, is_one_sign, HasForm}
use Rattle.text_scan.specs.Items.{escaped, hex_value, IsItem, plain, short, hex, Spells}
use Rattle.text_scan.specs.Tokens.{token_text}
use Rattle.litmus_syntax.specs.Forms.{is_narrow}
use Rattle.lexeme_reader.specs.declared.reading.Lexeme.{Lexeme}
use Rattle.lexeme_reader.specs.declared.reading.Lexeme.TheVariants as says
use Rattle.lexeme_reader.specs.Lexemes.{digits_value, Says, AreSaid, is_formed, AreLexemes}
use Rattle.lexeme_reader.proofs.Tokens.{HasItsForm, tokens_formed}

line_byte : (b : ℕ) → is_line_byte b ≡ true → b < 256
line_byte b e = grind (arith, nat_tests)

escaped_byte : (b byte : ℕ) → escaped b ≡ Some byte → byte < 256
escaped_byte b byte e = grind (arith, nat_tests)

hex_byte : (a : ℕ) → is_hex_digit a ≡ true → hex_value a < 16
hex_byte a e = grind (arith, nat_tests)

item_byte : (written : List ℕ) (byte : ℕ) → IsItem written byte → byte < 256
item_byte written byte (plain p e) =
    let front = and_parts (is_line_byte byte && not (byte == 34)) (not (byte == 92)) p in
    line_byte byte (and_parts (is_line_byte byte) (not (byte == 34)) front.0).0
item_byte written byte (short b p e) = escaped_byte b byte p
item_byte written byte (hex a b x y v e) = omega (arith, hex_byte a x, hex_byte b y)

spelled_bytes : (written bytes : List ℕ) → Spells written bytes → IsTrue (list_all (λ b. nat_lt b 256) bytes)
spelled_bytes written [] s = refl
spelled_bytes written (byte ∷ bytes) s =
    and_from (nat_lt byte 256) (list_all (λ b. nat_lt b 256) bytes) (lt-ltb byte 256 (item_byte s.0 byte s.3)) (spelled_bytes s.1 bytes s.4)

path_formed : (text : List ℕ) → HasForm kind.PathToken text → IsTrue (list_all is_component (components text))
path_formed [] h = refl
path_formed (b ∷ bs) h = (and_parts _ (list_all is_component (components (b ∷ bs))) h).1

sign_formed : (text : List ℕ) (sign : ℕ) → text ≡ sign ∷ [] → IsTrue (is_one_sign text) → IsTrue (is_sign sign)
sign_formed [] sign e h = cc
sign_formed (b ∷ bs) sign e h =
    let same : b ≡ sign = cc in
    ap is_sign (sym same) ∙ (and_parts (is_sign b) _ h).0

number_formed : (n : ℕ) (narrow : Bool) → is_narrow n ≡ narrow → IsTrue (is_formed (says.Number (if narrow then Some n else None)))
number_formed n true e = e
number_formed n false e = refl

-- what a token of this kind and form says
pub says_formed : (k : TokenKind) (text : List ℕ) (l : Lexeme) → HasForm k text → Says k text l → IsTrue (is_formed l)
says_formed kind.Word text l h s = ap is_formed s ∙ h
says_formed kind.Number text l h s = ap is_formed s ∙ number_formed (digits_value text) (is_narrow (digits_value text)) refl
says_formed kind.PathToken text l h s = ap is_formed s ∙ path_formed text h
says_formed kind.TextToken text l h s = ap is_formed s.2 ∙ spelled_bytes s.1.0 s.0 s.1.2
says_formed kind.Sign text l h s = ap is_formed s.2 ∙ sign_formed text s.0 s.1 h

pub said_formed : (line : List ℕ) (tokens : List Token) (lexemes : List Lexeme) → All (HasItsForm line) tokens → AreSaid line tokens lexemes
    → All (λ l. IsTrue (is_formed l)) lexemes
said_formed line [] [] h are = All-nil (λ l. IsTrue (is_formed l))
said_formed line [] (m ∷ ms) h are = absurd are
said_formed line (t ∷ ts) [] h are = absurd are
said_formed line (t ∷ ts) (m ∷ ms) h are =
    All-cons (λ l. IsTrue (is_formed l)) m ms
    (says_formed t.kind (token_text line t) m (All-head (HasItsForm line) t ts h) are.0)
    (said_formed line ts ms (All-tail (HasItsForm line) t ts h) are.1)

-- everything that a line says
pub lexemes_formed : (line : List ℕ) (lexemes : List Lexeme) → AreLexemes line lexemes → All (λ l. IsTrue (is_formed l)) lexemes
lexemes_formed line lexemes are = said_formed line are.0 lexemes (tokens_formed line are.0 are.1) are.2
