-- The calls that the lines of a litmus file state, and the size of a block where they stand.
use Rattle.std.specs.Prelude.{ℕ, Bool, true, false, List, [], ◌∷◌, fold}
use Rattle.litmus_syntax.specs.declared.call.Call.{Call}
use Rattle.litmus_reader.specs.Statements.{Statement, Block, Body, Called}

-- the calls that the statements make
abbrev pub calls_in : List Statement → List Call
calls_in [] = []
calls_in (Called c ∷ ss) = c ∷ calls_in ss
calls_in (s ∷ ss) = calls_in ss

-- the body begins in these statements
abbrev pub begins_body : List Statement → Bool
begins_body [] = false
begins_body (Body ∷ ss) = true
begins_body (s ∷ ss) = begins_body ss

-- the calls behind the line that begins the body
abbrev pub body_calls : List Statement → List Call
body_calls [] = []
body_calls (Body ∷ ss) = calls_in ss
body_calls (s ∷ ss) = body_calls ss

-- the size of a block behind a line, of this size before it
abbrev pub block_behind : ℕ → Statement → ℕ
block_behind size (Block named) = named
block_behind size s = size

-- the size of a block behind these statements: 4,096 where no line names one
abbrev pub block_of : List Statement → ℕ
block_of statements = fold block_behind 4096 statements
