use Rattle.proof_log.proofs.TokenSpans.{number_first}
use Rattle.proof_log.proofs.tokens.is_number.Goals as goal

pub returns-then-first-ne48 : goal.returns-then-first-ne48
returns-then-first-ne48 c = number_first c.args.digits.now c.in-Some.first.now c.in-Some.others.now c.in-Some.ensures.cases.0 c.requires c.if-first-ne48.true
