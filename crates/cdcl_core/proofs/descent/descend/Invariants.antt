use Rattle.std.proofs.Common.{◌-◌, length}
use Rattle.cdcl_core.specs.Search.{IsSound}
use Rattle.cdcl_core.specs.Steps.{HasSame, IsFooting}
use Rattle.cdcl_core.proofs.descent.descend.Given as goal

abbrev pub invariant-deeper : goal.invariant-deeper
invariant-deeper g l = record {
  sound : IsSound l.engine;
  same : HasSame l.initial.engine l.engine;
  footing : IsFooting l.assumptions l.engine.trail l.footing;
}

-- each round that goes on leaves a longer trail, and there are no more entries than variables
abbrev pub decreases-deeper : goal.decreases-deeper
decreases-deeper g l = l.engine.trail.vars - length l.engine.trail.entries
