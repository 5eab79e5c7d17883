-- A line says one list of things, or has a fault.
use Rattle.std.proofs.Common.{◌≡◌, ◌==◌, ◌⊎◌, inl, inr, ℕ, List, [], ◌∷◌, length, refl, sym, ◌∙◌, ap, ap₂, subst, arith}
use Rattle.std.specs.List.{All}
use Rattle.std.proofs.lemmas.List.Elements.{All-head, All-tail}
use Rattle.std.proofs.lemmas.Bool.{and_parts, eqb-true}
use Rattle.text_scan.specs.declared.scanning.TokenKind.{TokenKind}
use Rattle.text_scan.specs.declared.scanning.TokenKind.TheVariants as kind
use Rattle.text_scan.specs.declared.scanning.Token.{Token}
use Rattle.text_scan.specs.declared.scanning.ScanError.TheVariants.{BadByte, BadToken}
use Rattle.text_scan.specs.Bytes.{is_sign}
use Rattle.text_scan.specs.Faults.{IsFault}
use Rattle.text_scan.specs.Forms.{components, HasForm}
use Rattle.text_scan.specs.Items.{IsTextOf}
use Rattle.text_scan.specs.Tokens.{IsTokens, token_text}
use Rattle.lexeme_reader.specs.declared.reading.Lexeme.{Lexeme}
use Rattle.lexeme_reader.specs.declared.reading.Lexeme.TheVariants as says
use Rattle.lexeme_reader.specs.Lexemes.{digits_value, narrowed, Says, AreSaid, AreLexemes}
use Rattle.lexeme_reader.proofs.Tokens.{HasItsForm, tokens_formed}

-- a text means one thing
abbrev pub OneMeaning : Type 0
OneMeaning = (text a b : List ℕ) → IsTextOf text a → IsTextOf text b → a ≡ b

token_says_once : OneMeaning → (k : TokenKind) (text : List ℕ) (a b : Lexeme) → Says k text a → Says k text b → a ≡ b
token_says_once m kind.Word text a b h g = h ∙ sym g
token_says_once m kind.Number text a b h g = h ∙ sym g
token_says_once m kind.PathToken text a b h g = h ∙ sym g
token_says_once m kind.TextToken text a b h g = h.2 ∙ ap (λ (bytes : List ℕ). says.Text bytes) (m text h.0 g.0 h.1 g.1) ∙ sym g.2
token_says_once m kind.Sign text a b h g =
    let both : h.0 ∷ [] ≡ g.0 ∷ [] = sym h.1 ∙ g.1 in
    let same : h.0 ≡ g.0 = cc in
    h.2 ∙ ap (λ (s : ℕ). says.Sign s) same ∙ sym g.2

all_said_once : OneMeaning → (line : List ℕ) (tokens : List Token) (a b : List Lexeme) → AreSaid line tokens a → AreSaid line tokens b → a ≡ b
all_said_once m line [] [] [] h g = refl
all_said_once m line [] [] (y ∷ ys) h g = absurd g
all_said_once m line [] (x ∷ xs) b h g = absurd h
all_said_once m line (t ∷ ts) [] b h g = absurd h
all_said_once m line (t ∷ ts) (x ∷ xs) [] h g = absurd g
all_said_once m line (t ∷ ts) (x ∷ xs) (y ∷ ys) h g =
    ap₂ (λ (l : Lexeme) (ls : List Lexeme). l ∷ ls) (token_says_once m t.kind (token_text line t) x y h.0 g.0) (all_said_once m line ts xs ys h.1 g.1)

-- a line says one list of things
pub said_once : OneMeaning → ((line : List ℕ) (a b : List Token) → IsTokens line a → IsTokens line b → a ≡ b)
    → (line : List ℕ) (a b : List Lexeme) → AreLexemes line a → AreLexemes line b → a ≡ b
said_once m one_list line a b h g =
    let same = one_list line h.0 g.0 h.1 g.1 in
    all_said_once m line h.0 a b h.2 (subst (λ (ts : List Token). AreSaid line ts b) (sym same) g.2)

-- each token says something
saying : (k : TokenKind) (text : List ℕ) → HasForm k text → (l : Lexeme) × Says k text l
saying kind.Word text h = (says.Word text, refl)
saying kind.Number text h = (says.Number (narrowed (digits_value text)), refl)
saying kind.PathToken text h = (says.Path (components text), refl)
saying kind.TextToken text h = (says.Text h.0, (h.0, h.1, refl))
saying kind.Sign [] h = absurd cc
saying kind.Sign (b ∷ []) h = (says.Sign b, (b, refl, refl))
saying kind.Sign (b ∷ (c ∷ bs)) h =
    let none = eqb-true (length (c ∷ bs)) 0 (and_parts (is_sign b) (length (c ∷ bs) == 0) h).1 in
    absurd (omega (arith, none))

all_say : (line : List ℕ) (tokens : List Token) → All (HasItsForm line) tokens → (lexemes : List Lexeme) × AreSaid line tokens lexemes
all_say line [] h = ([], tt)
all_say line (t ∷ ts) h =
    let first = saying t.kind (token_text line t) (All-head (HasItsForm line) t ts h) in
    let rest = all_say line ts (All-tail (HasItsForm line) t ts h) in
    (first.0 ∷ rest.0, (first.1, rest.1))

-- a line with tokens says something
line_says : (line : List ℕ) (tokens : List Token) → IsTokens line tokens → (lexemes : List Lexeme) × AreLexemes line lexemes
line_says line tokens are =
    let said = all_say line tokens (tokens_formed line tokens are) in
    (said.0, (tokens, are, said.1))

-- a line that has tokens or a fault says something or has that fault
pub says_or_not : (line : List ℕ) → ((tokens : List Token) × IsTokens line tokens) ⊎ IsFault line BadByte ⊎ IsFault line BadToken
    → ((lexemes : List Lexeme) × AreLexemes line lexemes) ⊎ IsFault line BadByte ⊎ IsFault line BadToken
says_or_not line (inl (tokens, are)) = inl (line_says line tokens are)
says_or_not line (inr (inl bad)) = inr (inl bad)
says_or_not line (inr (inr bad)) = inr (inr bad)
