use Rattle.fer_events.proofs.Formed.{slots_paths_formed}
use Rattle.fer_events.proofs.laws.syncs_are_formed.Goals as goal

pub returns-clause-files : goal.returns-clause-files
returns-clause-files c = slots_paths_formed

pub returns-clause-dirs : goal.returns-clause-dirs
returns-clause-dirs c = λ t rules. rules.dirs_formed
