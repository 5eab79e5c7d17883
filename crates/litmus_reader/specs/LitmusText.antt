-- Litmus files: which bytes are which litmus test, and at which line and with which kind other bytes are refused.
use Rattle.std.specs.Prelude.{◌≡◌, ℕ, Bool, List, [], ◌∷◌}
use Rattle.litmus_syntax.specs.Test.{Test}
use Rattle.lexeme_reader.specs.declared.reading.Lexeme.{Lexeme}
use Rattle.line_files.specs.declared.fault.SharedFault.{SharedFault}
use Rattle.line_files.specs.declared.fault.SharedFault.TheVariants as shared
use Rattle.line_files.specs.Grammars.{Grammar}
use Rattle.line_files.specs.Refusals.{IsText, IsRefused}
use Rattle.litmus_reader.specs.declared.fault.LitmusKind.{LitmusKind}
use Rattle.litmus_reader.specs.declared.fault.LitmusKind.TheVariants.{BadByte, BadToken, BadLine, OutOfOrder, NumberRange, NotHere, TooLong, BadPredicate, EndsEarly}
use Rattle.litmus_reader.specs.Statements.{Statement, Question, statement_lexemes}
use Rattle.litmus_reader.specs.WholeFiles.{IsTest}
use Rattle.litmus_reader.specs.Faults.{HaveFault}

-- the kinds in the order in which they are tried on a line
abbrev pub kinds : List LitmusKind
kinds = BadLine ∷ OutOfOrder ∷ NumberRange ∷ NotHere ∷ TooLong ∷ BadPredicate ∷ []

-- the kinds of the faults that files of any grammar may have
abbrev pub shared_kind : SharedFault → LitmusKind
shared_kind shared.BadByte = BadByte
shared_kind shared.BadToken = BadToken
shared_kind shared.EndsEarly = EndsEarly
shared_kind shared.TooLong = TooLong

-- the question, which ends a file
abbrev pub IsQuestion : Statement → Type 0
IsQuestion s = (want : Bool) × (asked : List Lexeme) × (s ≡ Question want asked)

abbrev pub litmus_grammar : Grammar Statement LitmusKind
litmus_grammar = record {
  lexemes_of = statement_lexemes;
  Has = HaveFault;
  kinds = kinds;
  shared_kind = shared_kind;
  Ends = IsQuestion;
}

-- the bytes are this litmus test: at most 65,536, whose lines state the statements that make it
abbrev pub IsLitmusText : List ℕ → Test → Type 0
IsLitmusText bytes litmus = IsText litmus_grammar IsTest bytes litmus

-- the bytes are refused at this line, for a fault of this kind: the first bad line, with its first kind; the line behind
-- the last where no line is bad and there is no question; or line 0 where they are too many
abbrev pub IsLitmusRefused : List ℕ → ℕ → LitmusKind → Type 0
IsLitmusRefused bytes number kind = IsRefused litmus_grammar bytes number kind
