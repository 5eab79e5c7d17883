-- Private: what is read from a line before its numbers are known to be in range.
use Rattle.std.specs.Prelude.{◌≡◌, List}
use Rattle.litmus_syntax.specs.declared.call.Call.{Call}
use Rattle.litmus_syntax.specs.declared.call.Call.TheVariants as call
use Rattle.lexeme_reader.specs.declared.reading.Lexeme.{Lexeme}
use Rattle.predicate_reader.specs.Predicates.{AreInRange}
use Rattle.litmus_reader.specs.declared.statements.Said.{Said}
use Rattle.litmus_reader.specs.declared.statements.Said.TheVariants as said
use Rattle.litmus_reader.specs.Statements.{Statement, Head, Block, Sector, Setup, Body, Called, Question, call_lexemes, statement_lexemes}

-- what a line is said to state
abbrev pub statement_of : Said → Statement
statement_of (said.Head name version) = Head name.now version
statement_of (said.Block size) = Block size
statement_of (said.Sector size) = Sector size
statement_of said.Setup = Setup
statement_of said.Body = Body
statement_of (said.Called c) = Called c
statement_of (said.Question want asked) = Question want asked.now

-- the call with each of its numbers 0
abbrev pub numberless_call : Call → Call
numberless_call (call.Write path at text) = call.Write path 0 text
numberless_call (call.Truncate path size) = call.Truncate path 0
numberless_call (call.Attr path key value) = call.Attr path key 0
numberless_call c = c

-- the statement with each of its sizes and of its call's numbers 0
abbrev pub numberless : Statement → Statement
numberless (Block size) = Block 0
numberless (Sector size) = Sector 0
numberless (Called c) = Called (numberless_call c)
numberless s = s

-- the tokens are a call: this one, where their numbers are in range, and one like it in any case
pub record IsCallRead (lexemes : List Lexeme) (read : Call) : Type 0 where
  pub call : Call
  pub lexed : lexemes ≡ call_lexemes call
  pub alike : numberless_call call ≡ numberless_call read
  pub same : AreInRange lexemes → call ≡ read

-- the tokens are a statement: this one, where their numbers are in range, and one like it in any case
pub record IsRead (lexemes : List Lexeme) (read : Statement) : Type 0 where
  pub statement : Statement
  pub lexed : lexemes ≡ statement_lexemes statement
  pub alike : numberless statement ≡ numberless read
  pub same : AreInRange lexemes → statement ≡ read
