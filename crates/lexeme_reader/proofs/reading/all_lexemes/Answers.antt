use Rattle.std.proofs.Common.{◌+◌, ◌<◌, length, take, List, subst, sym, arith}
use Rattle.lexeme_reader.specs.declared.reading.Lexeme.{Lexeme}
use Rattle.lexeme_reader.specs.Lexemes.{AreSaid}
use Rattle.lexeme_reader.proofs.Tokens.{said_next}
use Rattle.lexeme_reader.proofs.reading.all_lexemes.Goals as goal

pub loop-token-preserved : goal.loop-token-preserved
loop-token-preserved c =
    let below : c.loop-token.token-index < length c.args.tokens.now = omega arith in
    subst (λ (ls : List Lexeme). AreSaid c.args.line.now (take (c.loop-token.token-index + 1) c.args.tokens.now) ls)
    (sym c.in_ok-push.ensures.items)
    (said_next c.args.line.now c.args.tokens.now c.loop-token.token-index c.loop-token.lexemes.items c.in_ok-said.said _ below
    c.loop-token.invariant c.in_ok-said.ensures)
