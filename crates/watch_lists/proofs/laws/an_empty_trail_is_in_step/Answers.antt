use Rattle.watch_lists.proofs.GeneralWatches.{empty}
use Rattle.watch_lists.proofs.laws.an_empty_trail_is_in_step.Goals as goal

pub returns : goal.returns
returns c = empty
