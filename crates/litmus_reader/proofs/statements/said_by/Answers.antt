use Rattle.std.proofs.Common.{◌∙◌, drop}
use Rattle.litmus_reader.specs.Statements.{statement_lexemes}
use Rattle.litmus_reader.proofs.Leading.{statement_keyword, statement_led}
use Rattle.litmus_reader.proofs.statements.said_by.Goals as goal

pub returns-in_default : goal.returns-in_default
returns-in_default c = λ s e. c.in_default.ensures (statement_keyword s) (drop 1 (statement_lexemes s)) (e ∙ statement_led s)
