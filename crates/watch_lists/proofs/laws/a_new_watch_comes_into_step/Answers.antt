use Rattle.watch_lists.proofs.GeneralWatches.{others, at-once, later, watches-more, clauses-more}
use Rattle.watch_lists.proofs.laws.a_new_watch_comes_into_step.Goals as goal

pub returns-clause-others : goal.returns-clause-others
returns-clause-others c = others

pub returns-clause-at_once : goal.returns-clause-at_once
returns-clause-at_once c = at-once

pub returns-clause-later : goal.returns-clause-later
returns-clause-later c = later

pub returns-clause-watches : goal.returns-clause-watches
returns-clause-watches c = watches-more

pub returns-clause-more : goal.returns-clause-more
returns-clause-more c = clauses-more
