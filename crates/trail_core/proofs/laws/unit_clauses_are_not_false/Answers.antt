use Rattle.trail_core.proofs.GeneralTrails.{free-not-fails}
use Rattle.trail_core.proofs.laws.unit_clauses_are_not_false.Goals as goal

pub returns : goal.returns
returns c entries clause u all = free-not-fails entries u.0 u.2 (all u.0 u.1)
