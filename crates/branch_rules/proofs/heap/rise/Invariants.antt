use Rattle.std.proofs.Common.{◌≡◌, ◌<◌, length}
use Rattle.branch_rules.specs.Heap.{IsAlmost, IsIndexed, HaveSame}
use Rattle.branch_rules.proofs.heap.rise.Given as goal

abbrev pub invariant-up : goal.invariant-up
invariant-up l = record {
  len : length l.heap ≡ length l.initial.heap;
  indexed : IsIndexed l.heap l.places l.count (length l.initial.heap);
  almost : IsAlmost l.scores l.heap l.size l.at;
  at_in : l.at < l.size;
  same : HaveSame l.initial.places l.places;
}

abbrev pub decreases-up : goal.decreases-up
decreases-up l = l.at
