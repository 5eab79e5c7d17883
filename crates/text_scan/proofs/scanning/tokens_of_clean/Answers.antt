use Rattle.std.proofs.lemmas.Option.{MatchOption-at_some}
use Rattle.text_scan.proofs.Following.{read_more}
use Rattle.text_scan.proofs.scanning.tokens_of_clean.Goals as goal

pub loop-tokens-preserved : goal.loop-tokens-preserved
loop-tokens-preserved c =
    let next = MatchOption-at_some _ _ _ c.in-Some.is c.in_ok-token.ensures in
    (read_more c.args.line.now c.loop-tokens.tokens.items c.push.new.self.items c.loop-tokens.place c.in-Some.token c.loop-tokens.invariant next c.in_ok-push.ensures.items).1
