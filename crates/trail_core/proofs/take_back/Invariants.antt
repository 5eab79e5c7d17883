use Rattle.std.proofs.Common.{◌≡◌}
use Rattle.trail_core.specs.Course.{up_to}
use Rattle.trail_core.specs.Kept.{AreFront, entries_of}
use Rattle.trail_core.proofs.take_back.Given as goal

abbrev pub invariant-loop-left : goal.invariant-loop-left
invariant-loop-left l = record {
  front : AreFront l.values l.origins l.lits l.left;
  left : up_to l.level (entries_of l.origins l.lits l.left) ≡ up_to l.level (entries_of l.origins l.lits l.count);
}

abbrev pub decreases-loop-left : goal.decreases-loop-left
decreases-loop-left l = l.left
