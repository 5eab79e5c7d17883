-- What a line of a model file may state, and the tokens that state it.
use Rattle.std.specs.Prelude.{ℕ, ◌+◌, Bool, true, false, List, [], ◌∷◌, Option, Some, None, codes}
use Rattle.lexeme_reader.specs.declared.reading.Lexeme.{Lexeme}
use Rattle.lexeme_reader.specs.declared.reading.Lexeme.TheVariants.{Word, Number, Sign}

-- what a line states: the name of the model and perhaps the version; a definition, recursive or not, of a name by the
-- tokens behind the `=`; that the pairs of an expression are kept, which these tokens are; or that the file ends
pub data Statement : Type 0 where
  Head : List ℕ → Option ℕ → Statement
  Let : Bool → List ℕ → List Lexeme → Statement
  Keep : List Lexeme → Statement
  End : Statement

-- the tokens of a statement
abbrev pub statement_lexemes : Statement → List Lexeme
statement_lexemes (Head name None) = Word (codes "model") ∷ Word name ∷ []
statement_lexemes (Head name (Some version)) = Word (codes "model") ∷ Word name ∷ Number (Some version) ∷ []
statement_lexemes (Let false name value) = Word (codes "let") ∷ Word name ∷ Sign 61 ∷ value
statement_lexemes (Let true name value) = Word (codes "let") ∷ Word (codes "rec") ∷ Word name ∷ Sign 61 ∷ value
statement_lexemes (Keep value) = Word (codes "keep") ∷ value
statement_lexemes End = Word (codes "end") ∷ []

-- the version that a head names: 1 where it has no number
abbrev pub version_named : Option ℕ → ℕ
version_named None = 1
version_named (Some version) = version

-- the version of a file of which these statements stand first, and 1 before the head
abbrev pub version_of : List Statement → ℕ
version_of [] = 1
version_of (Head name version ∷ ss) = version_named version
version_of (s ∷ ss) = version_of ss

-- the names that the statements define, in their order
abbrev pub names_in : List Statement → List (List ℕ)
names_in [] = []
names_in (Let recursive name value ∷ ss) = name ∷ names_in ss
names_in (s ∷ ss) = names_in ss

-- how many lines keep pairs
abbrev pub keeps_in : List Statement → ℕ
keeps_in [] = 0
keeps_in (Keep value ∷ ss) = 1 + keeps_in ss
keeps_in (s ∷ ss) = keeps_in ss
