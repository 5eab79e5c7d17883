-- Model files: which bytes are which model, and at which line and with which kind other bytes are refused.
use Rattle.std.specs.Prelude.{◌≡◌, ℕ, ◌+◌, List, [], ◌∷◌, ◌++◌, Option}
use Rattle.line_files.specs.declared.fault.SharedFault.{SharedFault}
use Rattle.line_files.specs.declared.fault.SharedFault.TheVariants as shared
use Rattle.line_files.specs.Grammars.{Grammar}
use Rattle.line_files.specs.StatedLines.{Stated, stated_in, statements}
use Rattle.line_files.specs.FirstFaults.{AreSound}
use Rattle.line_files.specs.Refusals.{IsText, IsRefused}
use Rattle.model_reader.specs.declared.expr.Expr.{Expr}
use Rattle.model_reader.specs.declared.model.Definition.{Definition}
use Rattle.model_reader.specs.declared.model.Model.{Model}
use Rattle.model_reader.specs.declared.fault.ModelKind.{ModelKind}
use Rattle.model_reader.specs.declared.fault.ModelKind.TheVariants.{BadByte, BadToken, BadLine, UnknownName, NameTaken, UnknownKind, TooDeep, EndsEarly, TooMany, TooLong}
use Rattle.model_reader.specs.declared.words.Vocabulary.TheVariants.{KnownWords}
use Rattle.model_reader.specs.Statements.{Statement, Head, Let, Keep, End, statement_lexemes, version_named}
use Rattle.model_reader.specs.Faults.{Means, names_for, HaveFault}

-- the kinds in the order in which they are tried on a line
abbrev pub kinds : List ModelKind
kinds = TooDeep ∷ TooMany ∷ BadLine ∷ UnknownName ∷ UnknownKind ∷ NameTaken ∷ []

-- the kinds of the faults that files of any grammar may have
abbrev pub shared_kind : SharedFault → ModelKind
shared_kind shared.BadByte = BadByte
shared_kind shared.BadToken = BadToken
shared_kind shared.EndsEarly = EndsEarly
shared_kind shared.TooLong = TooLong

abbrev pub model_grammar : Grammar Statement ModelKind
model_grammar = record {
  lexemes_of = statement_lexemes;
  Has = HaveFault;
  kinds = kinds;
  shared_kind = shared_kind;
  Ends = λ s. s ≡ End;
}

-- the definitions and the kept expressions of statements, behind these names and so many kept expressions: each
-- expression is over the names before it, and its own where its definition is recursive
abbrev pub AreRules : List (List ℕ) → ℕ → List Statement → List Definition → List Expr → Type 0
AreRules names kept [] lets keeps = (lets ≡ []) × (keeps ≡ [])
AreRules names kept (Let recursive name value ∷ ss) lets keeps =
    (e : Expr) × (others : List Definition) × Means KnownWords (names_for names recursive name) value e
    × (lets ≡ record { value = e; before = kept; recursive = recursive } ∷ others) × AreRules (names ++ name ∷ []) kept ss others keeps
AreRules names kept (Keep value ∷ ss) lets keeps =
    (e : Expr) × (others : List Expr) × Means KnownWords names value e × (keeps ≡ e ∷ others) × AreRules names (kept + 1) ss lets others
AreRules names kept (s ∷ ss) lets keeps = AreRules names kept ss lets keeps

-- the statements of a whole file, none of which has a fault and the last of which ends it, and the model that they make
pub record IsModel (stated : List (Stated Statement)) (model : Model) : Type 0 where
  pub head_line : ℕ
  pub number : Option ℕ
  pub behind_head : List (Stated Statement)
  pub before_end : List (Stated Statement)
  pub end_line : ℕ
  pub sound : AreSound model_grammar stated
  pub head : stated ≡ stated_in head_line (Head model.name number) ∷ behind_head
  pub end : stated ≡ before_end ++ stated_in end_line End ∷ []
  pub version : model.version ≡ version_named number
  pub rules : AreRules [] 0 (statements stated) model.lets model.keeps

-- the bytes are this model: at most 65,536, whose lines state the statements that make it
abbrev pub IsModelText : List ℕ → Model → Type 0
IsModelText bytes model = IsText model_grammar IsModel bytes model

-- the bytes are refused at this line, for a fault of this kind: the first bad line, with its first kind; the line behind
-- the last where no line is bad and none ends the file; or line 0 where they are too many
abbrev pub IsModelRefused : List ℕ → ℕ → ModelKind → Type 0
IsModelRefused bytes number kind = IsRefused model_grammar bytes number kind
