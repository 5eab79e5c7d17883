use Rattle.std.proofs.Common.{◌≡◌, List, subst, rules}
use Rattle.std.specs.List.{All}
use Rattle.text_scan.specs.declared.scanning.Token.{Token}
use Rattle.lexeme_reader.proofs.Tokens.{HasItsForm, tokens_formed}
use Rattle.lexeme_reader.specs.Lexemes.{AreLexemes}
use Rattle.lexeme_reader.proofs.Formed.{lexemes_formed}
use Rattle.lexeme_reader.proofs.reading.lexemes.Goals as goal

pub all_lexemes-requires-clause-of_the_line : goal.all_lexemes-requires-clause-of_the_line
all_lexemes-requires-clause-of_the_line c =
    let same : c.in_ok-tokens.tokens.items ≡ c.as_slice.result.now = search rules in
    subst (λ (ts : List Token). All (HasItsForm c.args.line.now) ts) same (tokens_formed c.args.line.now c.in_ok-tokens.tokens.items c.in_ok-tokens.ensures.tokens)

pub returns-clause-formed : goal.returns-clause-formed
returns-clause-formed c =
    let are : AreLexemes c.args.line.now c.in-Ok.lexemes.items = search rules in
    lexemes_formed c.args.line.now c.in-Ok.lexemes.items are
