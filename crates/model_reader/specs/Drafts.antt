-- Private: what is kept of the lines of a model file while it is read.
use Rattle.std.specs.Prelude.{◌≡◌, ◌≢◌, ◌⊎◌, ℕ, ◌≤◌, Bool, List, [], ◌∷◌, ◌++◌, Option, Some, None, length, All, true, false, not, ◌||◌, ◌==◌, ◌<◌}
use Rattle.lexeme_reader.specs.declared.reading.Lexeme.{Lexeme}
use Rattle.line_files.specs.StatedLines.{Stated, stated_in, statements}
use Rattle.line_files.specs.FirstFaults.{IsFirst}
use Rattle.model_reader.specs.declared.expr.Expr.{Expr}
use Rattle.model_reader.specs.declared.fault.ModelKind.{ModelKind}
use Rattle.model_reader.specs.declared.fault.ModelKind.TheVariants.{BadLine, UnknownName, UnknownKind, NameTaken}
use Rattle.model_reader.specs.declared.words.Vocabulary.TheVariants.{EachWord, KnownNames, KnownWords}
use Rattle.model_reader.specs.declared.draft.Stage.{Stage}
use Rattle.model_reader.specs.declared.draft.Stage.TheVariants as stage
use Rattle.model_reader.specs.declared.draft.Draft.{Draft}
use Rattle.model_reader.specs.declared.statements.Said.{Said}
use Rattle.model_reader.specs.declared.statements.Said.TheVariants as said
use Rattle.model_reader.specs.Statements.{Statement, Head, Let, Keep, End, version_named, names_in, keeps_in}
use Rattle.model_reader.specs.Faults.{Means, MeansNothing, Has}
use Rattle.model_reader.specs.ModelText.{AreRules}

-- what is said
abbrev pub statement_of : Said → Statement
statement_of (said.Head name version) = Head name.now version
statement_of (said.Let recursive name value) = Let recursive name.now value.now
statement_of (said.Keep value) = Keep value.now
statement_of said.End = End

-- tokens have every form that an expression over these names needs, and are this one
pub record IsValue (names : List (List ℕ)) (value : List Lexeme) (e : Expr) : Type 0 where
  pub form : MeansNothing EachWord [] value → ⊥
  pub named : MeansNothing KnownNames names value → ⊥
  pub means : Means KnownWords names value e

-- why tokens are no expression over these names
abbrev pub IsValueFault : List (List ℕ) → List Lexeme → ModelKind → Type 0
IsValueFault names value kind =
    ((kind ≡ BadLine) × MeansNothing EachWord [] value)
    ⊎ ((kind ≡ UnknownName) × (MeansNothing EachWord [] value → ⊥) × MeansNothing KnownNames names value)
    ⊎ ((kind ≡ UnknownKind) × (MeansNothing EachWord [] value → ⊥) × (MeansNothing KnownNames names value → ⊥)
    × MeansNothing KnownWords names value)

-- the head of the file is kept
abbrev pub HasHead : List (Stated Statement) → Draft → Type 0
HasHead stated d =
    (line : ℕ) × (number : Option ℕ) × (behind : List (Stated Statement)) × (stated ≡ stated_in line (Head d.name number) ∷ behind)
    × (d.version ≡ version_named number)

-- the statements up to this stage
abbrev pub StandsAt : Stage → List (Stated Statement) → Draft → Type 0
StandsAt stage.BeforeHead stated d = (stated ≡ []) × (d.version ≡ 1)
StandsAt stage.Rules stated d = HasHead stated d × All (λ s. s ≢ End) (statements stated)
StandsAt stage.BehindEnd stated d =
    HasHead stated d × (before : List (Stated Statement)) × (line : ℕ) × (stated ≡ before ++ stated_in line End ∷ [])

-- the draft keeps these statements
pub record IsDraft (stated : List (Stated Statement)) (d : Draft) : Type 0 where
  pub stands : StandsAt d.stage stated d
  pub names : d.names ≡ names_in (statements stated)
  pub few_names : length d.names ≤ 256
  pub keeps : length d.keeps ≡ keeps_in (statements stated)
  pub few_keeps : length d.keeps ≤ 256
  pub rules : AreRules [] 0 (statements stated) d.lets d.keeps

-- the kinds of a statement's own faults, in the order in which they are tried
abbrev pub statement_kinds : List ModelKind
statement_kinds = BadLine ∷ UnknownName ∷ UnknownKind ∷ NameTaken ∷ []

-- the first kind of fault that a statement has
abbrev pub IsFirstKind : List Statement → Statement → ModelKind → Type 0
IsFirstKind before s kind = IsFirst (Has before s) statement_kinds kind

-- one more line was taken: its statement has no fault, and the draft keeps it too
pub record IsTaken (stated : List (Stated Statement)) (line : ℕ) (s : Statement) (d : Draft) : Type 0 where
  pub faultless : (kind : ModelKind) → Has (statements stated) s kind → ⊥
  pub kept : IsDraft (stated ++ stated_in line s ∷ []) d

-- at this stage of a file of this version the statement may not stand
abbrev pub is_barred : Stage → ℕ → Statement → Bool
is_barred stage.BeforeHead version (Head name None) = false
is_barred stage.BeforeHead version (Head name (Some named)) = not (named == 1 || named == 2)
is_barred stage.Rules version (Let true name value) = not (version == 2)
is_barred stage.Rules version (Let false name value) = false
is_barred stage.Rules version (Keep value) = false
is_barred stage.Rules version End = false
is_barred at version s = true

-- there is room for the statement among the definitions, or among the kept expressions
abbrev pub HasRoom : Draft → Statement → Type 0
HasRoom d (Let recursive name value) = length d.names < 256
HasRoom d (Keep value) = length d.keeps < 256
HasRoom d s = Unit {0}
