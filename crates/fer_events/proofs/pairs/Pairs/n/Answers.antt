use Rattle.std.proofs.Common.{subst}
use Rattle.fer_events.specs.Pairs.{IsListed}
use Rattle.fer_events.specs.Matrix.{bit_of}
use Rattle.fer_events.specs.Pairs.{square}
use Rattle.fer_events.proofs.PairLaws.{filter_listed}
use Rattle.fer_events.proofs.pairs.Pairs.n.Goals as goal

pub returns-clause-listed : goal.returns-clause-listed
returns-clause-listed c =
    subst IsListed c.self.view_is (filter_listed (λ p. bit_of c.self.inside.rows p.0 p.1) (square c.self.inside.n))
