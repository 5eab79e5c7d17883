use Rattle.call_events.proofs.Alike.{same_events}
use Rattle.call_events.proofs.laws.same_tests_alike.Goals as goal

pub returns : goal.returns
returns c = same_events
