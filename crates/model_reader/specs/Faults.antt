-- What may be wrong with a line of a model file.
use Rattle.std.specs.Prelude.{◌≡◌, ◌≢◌, ◌⊎◌, ℕ, ◌<◌, ◌≤◌, Bool, true, false, List, [], ◌∷◌, ◌++◌, Some, length, codes}
use Rattle.std.specs.List.{Contains}
use Rattle.lexeme_reader.specs.declared.reading.Lexeme.{Lexeme}
use Rattle.lexeme_reader.specs.declared.reading.Lexeme.TheVariants.{Word}
use Rattle.lexeme_reader.specs.Parentheses.{most_open}
use Rattle.model_reader.specs.declared.expr.Expr.{Expr}
use Rattle.model_reader.specs.declared.fault.ModelKind.{ModelKind}
use Rattle.model_reader.specs.declared.fault.ModelKind.TheVariants.{BadLine, UnknownName, NameTaken, UnknownKind, TooDeep, TooMany}
use Rattle.model_reader.specs.declared.operator.Operator.TheVariants.{Union}
use Rattle.model_reader.specs.declared.words.Vocabulary.{Vocabulary}
use Rattle.model_reader.specs.declared.words.Vocabulary.TheVariants.{EachWord, KnownNames, KnownWords}
use Rattle.model_reader.specs.Words.{word_of}
use Rattle.model_reader.specs.Expressions.{IsExpression}
use Rattle.model_reader.specs.Expressions.Binding.{Join}
use Rattle.model_reader.specs.Statements.{Statement, Head, Let, Keep, End, statement_lexemes, version_named, version_of, names_in, keeps_in}

-- the tokens are this expression, over these words and names
abbrev pub Means : Vocabulary → List (List ℕ) → List Lexeme → Expr → Type 0
Means words names value e = IsExpression words names (Join Union) value e

-- the tokens are no expression over these words and names
abbrev pub MeansNothing : Vocabulary → List (List ℕ) → List Lexeme → Type 0
MeansNothing words names value = (e : Expr) → Means words names value e → ⊥

-- the names that the expression of a definition may have: those before it, and its own where it is recursive
abbrev pub names_for : List (List ℕ) → Bool → List ℕ → List (List ℕ)
names_for names false name = names
names_for names true name = names ++ name ∷ []

-- the line stands before the head, or behind the end, or is a second head
abbrev pub IsMisplaced : List Statement → Statement → Type 0
IsMisplaced before (Head name version) = before ≢ []
IsMisplaced before s = (before ≡ []) ⊎ Contains before End

-- a file of this version has no such line: the versions are 1 and 2, and only the second has recursive definitions
abbrev pub IsForeign : List Statement → Statement → Type 0
IsForeign before (Head name version) = (version_named version ≢ 1) × (version_named version ≢ 2)
IsForeign before (Let true name value) = version_of before ≢ 2
IsForeign before s = ⊥

-- the tokens that have to be an expression have the form of none, whatever their words mean
abbrev pub IsFormless : Statement → Type 0
IsFormless (Let recursive name value) = MeansNothing EachWord [] value
IsFormless (Keep value) = MeansNothing EachWord [] value
IsFormless s = ⊥

-- the tokens are no expression over these words and the names before the line
abbrev pub IsUnknownTo : Vocabulary → List Statement → Statement → Type 0
IsUnknownTo words before (Let recursive name value) = MeansNothing words (names_for (names_in before) recursive name) value
IsUnknownTo words before (Keep value) = MeansNothing words (names_in before) value
IsUnknownTo words before s = ⊥

-- the name is a base word, or was defined before
abbrev pub IsNameTaken : List Statement → Statement → Type 0
IsNameTaken before (Let recursive name value) = (e : Expr) × (word_of KnownNames (names_in before) name ≡ Some e)
IsNameTaken before s = ⊥

-- the tokens begin with this word
abbrev pub Begin : List ℕ → List Lexeme → Type 0
Begin word lexemes = (rest : List Lexeme) × (lexemes ≡ Word word ∷ rest)

-- more than 512 tokens, or the 257th line that begins with `let`, or the 257th that begins with `keep`
abbrev pub AreTooMany : List Statement → List Lexeme → Type 0
AreTooMany before lexemes =
    (512 < length lexemes) ⊎ (Begin (codes "let") lexemes × (256 ≤ length (names_in before)))
    ⊎ (Begin (codes "keep") lexemes × (256 ≤ keeps_in before))

-- a fault of this kind is in the statement, which stands behind those: it is misplaced, foreign to the version or
-- formless; a word outside brackets is unknown; one in brackets is; or the name that it defines is taken
abbrev pub Has : List Statement → Statement → ModelKind → Type 0
Has before s BadLine = IsMisplaced before s ⊎ IsForeign before s ⊎ IsFormless s
Has before s UnknownName = IsUnknownTo KnownNames before s
Has before s UnknownKind = IsUnknownTo KnownWords before s
Has before s NameTaken = IsNameTaken before s
Has before s kind = ⊥

-- tokens behind those statements have a fault of this kind: too many open parentheses, too many tokens or lines, or they
-- are no statement, or they are one with that fault
abbrev pub HaveFault : List Statement → List Lexeme → ModelKind → Type 0
HaveFault before lexemes TooDeep = 64 < most_open 0 lexemes
HaveFault before lexemes TooMany = AreTooMany before lexemes
HaveFault before lexemes BadLine = (s : Statement) → lexemes ≡ statement_lexemes s → Has before s BadLine
HaveFault before lexemes kind = (s : Statement) × (lexemes ≡ statement_lexemes s) × Has before s kind
