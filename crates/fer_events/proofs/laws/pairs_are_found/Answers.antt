use Rattle.fer_events.proofs.PairLaws.{has_self, has_only}
use Rattle.fer_events.proofs.laws.pairs_are_found.Goals as goal

pub returns : goal.returns
returns c = λ pairs a b. (has_only pairs a b, has_self pairs (a, b))
