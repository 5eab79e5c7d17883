use Rattle.std.proofs.Common.{take}
use Rattle.lexeme_reader.specs.Lexemes.{AreSaid}
use Rattle.lexeme_reader.proofs.reading.all_lexemes.Given as goal

abbrev pub invariant-loop-token : goal.invariant-loop-token
invariant-loop-token l = AreSaid l.line (take l.token-index l.tokens) l.lexemes.items
