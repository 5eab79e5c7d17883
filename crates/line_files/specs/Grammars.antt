-- Grammars that put one statement into a line.
use Rattle.std.specs.Prelude.{List}
use Rattle.lexeme_reader.specs.declared.reading.Lexeme.{Lexeme}
use Rattle.line_files.specs.declared.fault.SharedFault.{SharedFault}

-- a grammar whose lines state things of type S, and whose faults are of kinds K: the tokens of a statement; what it means
-- that behind those statements a line of these tokens has a fault of this kind; the kinds in the order in which they are
-- tried on a line; the kinds of the faults that files of all grammars may have; and which statements end a file
pub record Grammar (S K : Type 0) : Type 1 where
  pub lexemes_of : S → List Lexeme
  pub Has : List S → List Lexeme → K → Type 0
  pub kinds : List K
  pub shared_kind : SharedFault → K
  pub Ends : S → Type 0
