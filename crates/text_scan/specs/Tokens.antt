-- The tokens of a line.
use Rattle.std.specs.Prelude.{◌≡◌, ℕ, ◌+◌, List, [], ◌∷◌, drop, Some}
use Rattle.std.specs.List.{prefix_len, slice_range}
use Rattle.text_scan.specs.declared.scanning.Token.{Token}
use Rattle.text_scan.specs.Bytes.{is_blank}
use Rattle.text_scan.specs.Comments.{IsEnd}
use Rattle.text_scan.specs.Forms.{HasForm}
use Rattle.text_scan.specs.Kinds.{kind_at_front, token_len}

-- the first place from this one on where neither a space nor a tab stands
abbrev pub behind_blanks : List ℕ → ℕ → ℕ
behind_blanks line place = place + prefix_len is_blank (drop place line)

-- the bytes of a token
abbrev pub token_text : List ℕ → Token → List ℕ
token_text line token = slice_range line token.start token.end

-- a token of the line: it takes as many bytes as it can, and these have the form of its kind
pub record IsToken (line : List ℕ) (token : Token) : Type 0 where
  pub kind : kind_at_front (drop token.start line) ≡ Some token.kind
  pub longest : token.end ≡ token.start + token_len (drop token.start line)
  pub form : HasForm token.kind (token_text line token)

-- the next token from this place on, which begins behind the blanks
abbrev pub IsNext : List ℕ → ℕ → Token → Type 0
IsNext line place token = (token.start ≡ behind_blanks line place) × IsToken line token

-- from this place on there are only blanks, and perhaps a comment
abbrev pub IsLast : List ℕ → ℕ → Type 0
IsLast line place = IsEnd (drop (behind_blanks line place) line)

-- the tokens follow one another in the line, from the first place to the last one
abbrev pub Follow : List ℕ → ℕ → List Token → ℕ → Type 0
Follow line place [] end = place ≡ end
Follow line place (token ∷ tokens) end = IsNext line place token × Follow line token.end tokens end

-- the tokens of a line
abbrev pub IsTokens : List ℕ → List Token → Type 0
IsTokens line tokens = (end : ℕ) × Follow line 0 tokens end × IsLast line end
