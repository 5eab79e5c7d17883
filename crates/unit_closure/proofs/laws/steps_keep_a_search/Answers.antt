use Rattle.std.proofs.Common.{refl}
use Rattle.trail_core.specs.Course.{decided}
use Rattle.watch_lists.proofs.GeneralWatches.{back-seen-below}
use Rattle.unit_closure.proofs.GeneralSearch.{search-decided, search-back}
use Rattle.unit_closure.proofs.laws.steps_keep_a_search.Goals as goal

pub returns-clause-decided : goal.returns-clause-decided
returns-clause-decided c = λ clauses list t l s seen there free. search-decided clauses list t (decided t l) l s seen there free refl

pub returns-clause-back : goal.returns-clause-back
returns-clause-back c = search-back

pub returns-clause-back_seen : goal.returns-clause-back_seen
returns-clause-back_seen c = λ clauses list t level s lt. back-seen-below t level s.unseen lt
