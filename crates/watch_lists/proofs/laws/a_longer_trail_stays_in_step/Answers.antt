use Rattle.watch_lists.proofs.GeneralWatches.{longer}
use Rattle.watch_lists.proofs.laws.a_longer_trail_stays_in_step.Goals as goal

pub returns : goal.returns
returns c = longer
