use Rattle.sync_shrink.proofs.WalkLaws.{walk-fine, walk-least}
use Rattle.sync_shrink.proofs.laws.kept_sets_are_least.Goals as goal

pub returns-clause-fine : goal.returns-clause-fine
returns-clause-fine g c = λ oracle s w. walk-fine (g.O.Oracle.bad oracle) (g.O.Oracle.things oracle) (g.O.Oracle.things oracle) s w

pub returns-clause-least : goal.returns-clause-least
returns-clause-least g c = λ oracle s t w p ne. walk-least (g.O.Oracle.bad oracle) (g.met.O.Oracle.parts_are_bad oracle) (g.O.Oracle.things oracle) s t w p ne
