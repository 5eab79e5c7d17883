use Rattle.std.proofs.Common.{List, ◌∷◌, ap}
use Rattle.lexeme_reader.specs.declared.reading.Lexeme.{Lexeme}
use Rattle.lexeme_reader.specs.declared.reading.Lexeme.TheVariants.{Word}
use Rattle.litmus_reader.specs.declared.keywords.Keyword.TheVariants as word
use Rattle.litmus_reader.specs.Keywords.{keyword_text}
use Rattle.litmus_reader.proofs.Exact.{block_read}
use Rattle.litmus_reader.proofs.statements.block.Goals as goal

pub returns : goal.returns
returns c = block_read _ c.in_ok-size.size c.in_range.result (ap (λ (ls : List Lexeme). Word (keyword_text word.Block) ∷ ls) c.in_ok-size.ensures) c.in_range.ensures
