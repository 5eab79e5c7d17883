use Rattle.std.proofs.Common.{◌-◌}
use Rattle.watch_lists.specs.Watching.{UnseenArePresent}
use Rattle.watch_lists.specs.Propagated.{Advances}
use Rattle.watch_lists.specs.Going.{IsPrepared}
use Rattle.watch_lists.proofs.run.Given as goal

abbrev pub invariant-round : goal.invariant-round
invariant-round l = record {
  ready : IsPrepared l.store.clauses l.trail l.ids l.chains;
  unseen : UnseenArePresent l.trail;
  advances : Advances l.store.clauses l.ids l.initial.trail l.trail;
}

abbrev pub decreases-round : goal.decreases-round
decreases-round l = l.trail.vars - l.trail.seen
