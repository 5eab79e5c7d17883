-- What a line of a litmus file may state, and the tokens that state it.
use Rattle.std.specs.Prelude.{ℕ, Bool, List, [], ◌∷◌, Option, Some, None, codes}
use Rattle.litmus_syntax.specs.declared.call.Call.{Call}
use Rattle.litmus_syntax.specs.declared.call.Call.TheVariants as call
use Rattle.litmus_syntax.specs.LitmusText.{question_word}
use Rattle.litmus_reader.specs.declared.statements.Form.{Form}
use Rattle.litmus_reader.specs.declared.statements.Form.TheVariants as form
use Rattle.lexeme_reader.specs.declared.reading.Lexeme.{Lexeme}
use Rattle.lexeme_reader.specs.declared.reading.Lexeme.TheVariants.{Word, Number, Path, Text, Sign}
use Rattle.lexeme_reader.specs.Lexemes.{narrowed}

-- a number of any size; the token of one above 2^32 - 1 doesn't tell which
abbrev pub number : ℕ → Lexeme
number n = Number (narrowed n)

-- the tokens of a call: its name, and then what it is called on
abbrev pub call_lexemes : Call → List Lexeme
call_lexemes (call.Mkdir path) = Word (codes "mkdir") ∷ Path path ∷ []
call_lexemes (call.Create path) = Word (codes "create") ∷ Path path ∷ []
call_lexemes (call.Write path at text) = Word (codes "write") ∷ Path path ∷ number at ∷ Text text ∷ []
call_lexemes (call.Append path text) = Word (codes "append") ∷ Path path ∷ Text text ∷ []
call_lexemes (call.Truncate path size) = Word (codes "truncate") ∷ Path path ∷ number size ∷ []
call_lexemes (call.Link from to) = Word (codes "link") ∷ Path from ∷ Path to ∷ []
call_lexemes (call.Unlink path) = Word (codes "unlink") ∷ Path path ∷ []
call_lexemes (call.Rename from to) = Word (codes "rename") ∷ Path from ∷ Path to ∷ []
call_lexemes (call.Attr path key value) = Word (codes "attr") ∷ Path path ∷ Word key ∷ number value ∷ []
call_lexemes (call.Fsync path) = Word (codes "fsync") ∷ Path path ∷ []
call_lexemes (call.FsyncDir path) = Word (codes "fsyncdir") ∷ Path path ∷ []
call_lexemes call.Sync = Word (codes "sync") ∷ []
call_lexemes (call.Mark word) = Word (codes "mark") ∷ Word word ∷ []
call_lexemes call.Begin = Word (codes "begin") ∷ []
call_lexemes call.Commit = Word (codes "commit") ∷ []

-- what a line states: the name of the test and perhaps the version, the size of a block or of a sector, that the setup or
-- the body begins, a call, or the question, with the tokens behind its `:`
pub data Statement : Type 0 where
  Head : List ℕ → Option ℕ → Statement
  Block : ℕ → Statement
  Sector : ℕ → Statement
  Setup : Statement
  Body : Statement
  Called : Call → Statement
  Question : Bool → List Lexeme → Statement

-- the tokens of a statement
abbrev pub statement_lexemes : Statement → List Lexeme
statement_lexemes (Head name None) = Word (codes "litmus") ∷ Word name ∷ []
statement_lexemes (Head name (Some version)) = Word (codes "litmus") ∷ Word name ∷ Number (Some version) ∷ []
statement_lexemes (Block size) = Word (codes "block") ∷ number size ∷ []
statement_lexemes (Sector size) = Word (codes "sector") ∷ number size ∷ []
statement_lexemes Setup = Word (codes "setup") ∷ Sign 58 ∷ []
statement_lexemes Body = Word (codes "body") ∷ Sign 58 ∷ []
statement_lexemes (Called c) = call_lexemes c
statement_lexemes (Question want asked) = Word (question_word want) ∷ Sign 58 ∷ asked

-- the form of a statement
abbrev pub form_of : Statement → Form
form_of (Head name version) = form.Head
form_of (Block size) = form.Block
form_of (Sector size) = form.Sector
form_of Setup = form.Setup
form_of Body = form.Body
form_of (Called c) = form.Call
form_of (Question want asked) = form.Question
