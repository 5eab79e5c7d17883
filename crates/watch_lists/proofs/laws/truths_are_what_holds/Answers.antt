use Rattle.watch_lists.proofs.GeneralWatches.{holds-truths, truths-holds, not-truths, truths-consistent, safe-at}
use Rattle.watch_lists.proofs.laws.truths_are_what_holds.Goals as goal

pub returns-clause-holds : goal.returns-clause-holds
returns-clause-holds c = λ entries l. (holds-truths entries l, truths-holds entries l)

pub returns-clause-lacks : goal.returns-clause-lacks
returns-clause-lacks c = not-truths

pub returns-clause-consistent : goal.returns-clause-consistent
returns-clause-consistent c = truths-consistent

pub returns-clause-safe : goal.returns-clause-safe
returns-clause-safe c = safe-at
