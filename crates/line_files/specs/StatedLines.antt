-- What the lines of a file state, with the numbers of the lines.
use Rattle.std.specs.Prelude.{◌≡◌, ◌⊎◌, ℕ, ◌+◌, List, [], ◌∷◌, map}
use Rattle.lexeme_reader.specs.declared.reading.Lexeme.{Lexeme}
use Rattle.lexeme_reader.specs.Lexemes.{AreLexemes}

-- a statement and the line that it stands in
pub record Stated (S : Type 0) : Type 0 where
  pub line : ℕ
  pub statement : S

abbrev pub stated_in : {S : Type 0} → ℕ → S → Stated S
stated_in line s = record { line = line; statement = s }

-- the statements without their lines
abbrev pub statements : {S : Type 0} → List (Stated S) → List S
statements stated = map (λ t. t.statement) stated

-- lines of which the first has this number state these things, by the tokens of each; a line without tokens states nothing
abbrev pub AreStated : {S : Type 0} → (S → List Lexeme) → ℕ → List (List ℕ) → List (Stated S) → Type 0
AreStated lexemes_of number [] stated = stated ≡ []
AreStated lexemes_of number (line ∷ lines) stated =
    (AreLexemes line [] × AreStated lexemes_of (number + 1) lines stated)
    ⊎ ((s : _) × (others : List (Stated _)) × AreLexemes line (lexemes_of s)
    × AreStated lexemes_of (number + 1) lines others × (stated ≡ stated_in number s ∷ others))
