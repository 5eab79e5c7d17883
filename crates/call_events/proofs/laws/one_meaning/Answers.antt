use Rattle.call_events.proofs.Meaning.{one_meaning, files_left, paths_held}
use Rattle.call_events.proofs.laws.one_meaning.Goals as goal

pub returns-clause-left : goal.returns-clause-left
returns-clause-left c = files_left

pub returns-clause-same : goal.returns-clause-same
returns-clause-same c = one_meaning

pub returns-clause-paths : goal.returns-clause-paths
returns-clause-paths c = paths_held
