-- Each token of a line has the form of its kind.
use Rattle.std.proofs.Common.{◌≡◌, ℕ, suc, ◌+◌, ◌<◌, List, [], ◌∷◌, ◌++◌, length, take, get_or, subst, sym, ◌∙◌, ap, arith}
use Rattle.std.proofs.Math.Seq.{take-suc}
use Rattle.std.specs.List.{All}
use Rattle.std.proofs.lemmas.List.Elements.{All-nil, All-cons}
use Rattle.text_scan.specs.declared.scanning.Token.{Token}
use Rattle.text_scan.specs.Forms.{HasForm}
use Rattle.text_scan.specs.Tokens.{Follow, IsTokens, token_text}
use Rattle.lexeme_reader.specs.declared.reading.Lexeme.{Lexeme}
use Rattle.lexeme_reader.specs.Lexemes.{Says, AreSaid}

abbrev pub HasItsForm : List ℕ → Token → Type 0
HasItsForm line t = HasForm t.kind (token_text line t)

pub follow_formed : (line : List ℕ) (place : ℕ) (tokens : List Token) (end : ℕ) → Follow line place tokens end → All (HasItsForm line) tokens
follow_formed line place [] end f = All-nil (HasItsForm line)
follow_formed line place (t ∷ ts) end f = All-cons (HasItsForm line) t ts (f.0.1).form (follow_formed line t.end ts end f.1)

pub tokens_formed : (line : List ℕ) (tokens : List Token) → IsTokens line tokens → All (HasItsForm line) tokens
tokens_formed line tokens t = follow_formed line 0 tokens t.0 t.1

-- one more token, and what it says
pub said_more : (line : List ℕ) (tokens : List Token) (lexemes : List Lexeme) (t : Token) (l : Lexeme) → AreSaid line tokens lexemes
    → Says t.kind (token_text line t) l → AreSaid line (tokens ++ t ∷ []) (lexemes ++ l ∷ [])
said_more line [] [] t l are says = (says, tt)
said_more line [] (m ∷ ms) t l are says = absurd are
said_more line (u ∷ us) [] t l are says = absurd are
said_more line (u ∷ us) (m ∷ ms) t l are says = (are.0, said_more line us ms t l are.1 says)

-- the token behind the first ones, and what it says
pub said_next : (line : List ℕ) (tokens : List Token) (j : ℕ) (lexemes : List Lexeme) (l : Lexeme) (d : Token) → j < length tokens
    → AreSaid line (take j tokens) lexemes → Says (get_or tokens j d).kind (token_text line (get_or tokens j d)) l
    → AreSaid line (take (j + 1) tokens) (lexemes ++ l ∷ [])
said_next line tokens j lexemes l d below are says =
    let next : suc j ≡ j + 1 = omega arith in
    let longer = sym (take-suc tokens j d below) ∙ ap (λ (k : ℕ). take k tokens) next in
    subst (λ (ts : List Token). AreSaid line ts (lexemes ++ l ∷ [])) longer (said_more line (take j tokens) lexemes (get_or tokens j d) l are says)
