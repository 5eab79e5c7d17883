use Rattle.lexeme_reader.proofs.Formed.{lexemes_formed}
use Rattle.lexeme_reader.proofs.laws.what_is_said_is_formed.Goals as goal

pub returns : goal.returns
returns c = lexemes_formed
