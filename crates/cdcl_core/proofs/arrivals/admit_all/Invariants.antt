use Rattle.std.proofs.Common.{◌≡◌}
use Rattle.cdcl_core.specs.Search.{IsReadyAt}
use Rattle.cdcl_core.proofs.arrivals.admit_all.Given as goal

abbrev pub invariant-loop-id : goal.invariant-loop-id
invariant-loop-id l = record {
  ready : IsReadyAt l.engine l.id;
  store : l.engine.store ≡ l.initial.engine.store;
  learned : l.engine.learned ≡ l.initial.engine.learned;
}
