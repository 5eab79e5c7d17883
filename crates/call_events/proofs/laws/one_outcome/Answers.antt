use Rattle.call_events.proofs.Outcomes.{one_of_them}
use Rattle.call_events.proofs.laws.one_outcome.Goals as goal

pub returns-clause-one_of_them : goal.returns-clause-one_of_them
returns-clause-one_of_them c = λ litmus sites. one_of_them litmus sites
