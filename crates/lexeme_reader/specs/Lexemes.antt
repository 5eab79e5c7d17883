-- What the tokens of a line say: words, numbers, paths, texts and signs.
use Rattle.std.specs.Prelude.{◌≡◌, ℕ, ◌+◌, ◌-◌, ◌*◌, Bool, true, if◌then◌else◌, List, [], ◌∷◌, Option, Some, None, fold, ⊤}
use Rattle.text_scan.specs.declared.scanning.TokenKind.{TokenKind}
use Rattle.text_scan.specs.declared.scanning.TokenKind.TheVariants as kind
use Rattle.text_scan.specs.declared.scanning.Token.{Token}
use Rattle.text_scan.specs.Bytes.{is_sign}
use Rattle.text_scan.specs.Forms.{components, is_word}
use Rattle.text_scan.specs.Items.{IsTextOf}
use Rattle.text_scan.specs.Tokens.{IsTokens, token_text}
use Rattle.litmus_syntax.specs.Forms.{is_narrow, is_formed_path, is_byte_text}
use Rattle.lexeme_reader.specs.declared.reading.Lexeme.{Lexeme}
use Rattle.lexeme_reader.specs.declared.reading.Lexeme.TheVariants as says

-- the number that decimal digits write
abbrev pub digits_value : List ℕ → ℕ
digits_value digits = fold (λ value digit. 10 * value + (digit - 48)) 0 digits

-- a number that has 32 bits at most, and nothing for a wider one
abbrev pub narrowed : ℕ → Option ℕ
narrowed n = if is_narrow n then Some n else None

-- what a token of this kind and with these bytes says; numbers that are too wide aren't told apart
abbrev pub Says : TokenKind → List ℕ → Lexeme → Type 0
Says kind.Word text lexeme = lexeme ≡ says.Word text
Says kind.Number text lexeme = lexeme ≡ says.Number (narrowed (digits_value text))
Says kind.PathToken text lexeme = lexeme ≡ says.Path (components text)
Says kind.TextToken text lexeme = (bytes : List ℕ) × IsTextOf text bytes × (lexeme ≡ says.Text bytes)
Says kind.Sign text lexeme = (sign : ℕ) × (text ≡ sign ∷ []) × (lexeme ≡ says.Sign sign)

-- what the tokens say, one by one
abbrev pub AreSaid : List ℕ → List Token → List Lexeme → Type 0
AreSaid line [] [] = ⊤
AreSaid line (token ∷ tokens) (lexeme ∷ lexemes) = Says token.kind (token_text line token) lexeme × AreSaid line tokens lexemes
AreSaid line _ _ = ⊥

-- a lexeme has the form of its kind; a sign is one byte
abbrev pub is_formed : Lexeme → Bool
is_formed (says.Word word) = is_word word
is_formed (says.Number (Some n)) = is_narrow n
is_formed (says.Number None) = true
is_formed (says.Path path) = is_formed_path path
is_formed (says.Text bytes) = is_byte_text bytes
is_formed (says.Sign sign) = is_sign sign

-- what a line says; a line without tokens says nothing
abbrev pub AreLexemes : List ℕ → List Lexeme → Type 0
AreLexemes line lexemes = (tokens : List Token) × IsTokens line tokens × AreSaid line tokens lexemes
