use Rattle.std.proofs.Common.{◌≡◌, length, [], slice_index_or}
use Rattle.watch_lists.specs.Propagated.{Advances}
use Rattle.watch_lists.specs.Going.{IsUnderway}
use Rattle.watch_lists.proofs.go_through.Given as goal

abbrev pub invariant-chain : goal.invariant-chain
invariant-chain l = record {
  going : IsUnderway l.store.clauses l.trail l.ids l.chains l.l;
  advances : Advances l.store.clauses l.ids l.initial.trail l.trail;
  seen : l.trail.seen ≡ l.initial.trail.seen;
}

abbrev pub decreases-chain : goal.decreases-chain
decreases-chain l = length (slice_index_or l.chains.lists 0 [])
