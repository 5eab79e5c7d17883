use Rattle.std.proofs.Common.{◌≡◌, ◌<◌, true, arith, rules}
use Rattle.fer_events.specs.Pairs.{has_pair}
use Rattle.order_coding.proofs.Kept.{found-forward}
use Rattle.question_series.proofs.assuming.assume_pair.Goals as goal

pub before_lit-requires-clause-apart : goal.before_lit-requires-clause-apart
before_lit-requires-clause-apart c =
    let found : has_pair c.args.pairs.now.pairs c.args.a c.args.b ≡ true = search rules in
    let less : c.args.a < c.args.b = (found-forward c.args.pairs.now.n c.args.pairs.now.pairs c.args.a c.args.b c.requires.forward found).1 in omega arith
