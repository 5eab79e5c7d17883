use Rattle.unit_closure.specs.Search.{IsReadyAt}
use Rattle.unit_closure.proofs.arrivals.admit_all.Given as goal

abbrev pub invariant-loop-id : goal.invariant-loop-id
invariant-loop-id l = IsReadyAt l.store l.watches l.trail l.id
