use Rattle.watch_lists.proofs.GeneralWatches.{back, back-seen, back-seen-below}
use Rattle.watch_lists.proofs.laws.a_back_jump_stays_in_step.Goals as goal

pub returns-clause-in_step : goal.returns-clause-in_step
returns-clause-in_step c = back

pub returns-clause-seen : goal.returns-clause-seen
returns-clause-seen c = back-seen

pub returns-clause-seen_below : goal.returns-clause-seen_below
returns-clause-seen_below c = back-seen-below
