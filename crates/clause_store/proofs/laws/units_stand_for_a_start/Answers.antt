use Rattle.clause_store.proofs.Bridges.{units-conflict, conflict-units}
use Rattle.clause_store.proofs.laws.units_stand_for_a_start.Goals as goal

pub returns : goal.returns
returns c = record { forth = units-conflict; back = conflict-units }
