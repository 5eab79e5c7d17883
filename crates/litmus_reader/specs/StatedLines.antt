-- What the lines of a litmus file state, with the numbers of the lines.
use Rattle.std.specs.Prelude.{ℕ, List}
use Rattle.line_files.specs.StatedLines as lines
use Rattle.litmus_reader.specs.Statements.{Statement, statement_lexemes}

-- a statement of a litmus file and the line that it stands in
abbrev pub Stated : Type 0
Stated = lines.Stated Statement

-- lines of which the first has this number state these things; a line without tokens states nothing
abbrev pub AreStated : ℕ → List (List ℕ) → List Stated → Type 0
AreStated number all stated = lines.AreStated statement_lexemes number all stated
