use Rattle.sync_shrink.proofs.WalkLaws.{one-walk}
use Rattle.sync_shrink.proofs.laws.one_walk.Goals as goal

pub returns : goal.returns
returns g c = λ oracle k s t v w. one-walk (g.O.Oracle.bad oracle) (g.O.Oracle.things oracle) k s t v w
