use Rattle.std.proofs.Common.{◌≡◌, length}
use Rattle.branch_rules.specs.Heap.{IsRanked, IsIndexed, HaveSame}
use Rattle.branch_rules.proofs.activity.rebuild.Given as goal

abbrev pub invariant-loop-at : goal.invariant-loop-at
invariant-loop-at l = record {
  len : length l.heap ≡ length l.initial.heap;
  indexed : IsIndexed l.heap l.places l.count (length l.initial.heap);
  ranked : IsRanked l.scores l.heap l.at;
  same : HaveSame l.initial.places l.places;
}
