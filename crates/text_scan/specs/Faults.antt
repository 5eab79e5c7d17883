-- Why a line has no tokens: a byte that may not stand in it, or something that is no token.
use Rattle.std.specs.Prelude.{◌≡◌, ℕ, List, take, drop, Some, ⊤}
use Rattle.text_scan.specs.declared.scanning.TokenKind.{TokenKind}
use Rattle.text_scan.specs.declared.scanning.Token.{Token}
use Rattle.text_scan.specs.declared.scanning.ScanError.{ScanError}
use Rattle.text_scan.specs.declared.scanning.ScanError.TheVariants.{BadByte, BadToken, OutOfMemory}
use Rattle.text_scan.specs.Comments.{IsEnd, HasBadByte}
use Rattle.text_scan.specs.Forms.{HasForm}
use Rattle.text_scan.specs.Kinds.{kind_at_front, token_len}
use Rattle.text_scan.specs.Tokens.{behind_blanks, Follow}

-- something stands here, and what it takes isn't a token of the form of its kind
pub record IsBad (front : List ℕ) : Type 0 where
  pub more : IsEnd front → ⊥
  pub formless : (kind : TokenKind) → kind_at_front front ≡ Some kind → HasForm kind (take (token_len front) front) → ⊥

-- the next token from this place on is a bad one
abbrev pub IsBadNext : List ℕ → ℕ → Type 0
IsBadNext line place = IsBad (drop (behind_blanks line place) line)

-- a bad token stands in the line, behind tokens that are good
abbrev pub HasBadToken : List ℕ → Type 0
HasBadToken line = (tokens : List Token) × (end : ℕ) × Follow line 0 tokens end × IsBadNext line end

-- why a line has no tokens: a bad byte, or, in a line without one, a bad token
abbrev pub IsFault : List ℕ → ScanError → Type 0
IsFault line BadByte = HasBadByte line
IsFault line BadToken = (HasBadByte line → ⊥) × HasBadToken line
IsFault line OutOfMemory = ⊤
