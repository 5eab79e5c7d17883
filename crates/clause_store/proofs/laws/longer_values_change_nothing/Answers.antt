use Rattle.clause_store.proofs.Bridges.{longer-literal, longer-clause, longer-clauses}
use Rattle.clause_store.proofs.laws.longer_values_change_nothing.Goals as goal

pub returns : goal.returns
returns c = record { literal = longer-literal; clause = longer-clause; clauses = longer-clauses }
