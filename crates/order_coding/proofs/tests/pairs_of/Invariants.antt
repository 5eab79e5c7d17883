use Rattle.std.proofs.Common.{◌≡◌}
use Rattle.fer_events.specs.Orders.{AreForward}
use Rattle.order_coding.proofs.tests.pairs_of.Given as goal

abbrev pub invariant-loop-a : goal.invariant-loop-a
invariant-loop-a l = record {
  number : l.pairs.n ≡ l.n;
  forward : AreForward l.n l.pairs.pairs;
}
