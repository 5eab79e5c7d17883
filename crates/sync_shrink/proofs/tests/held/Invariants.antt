use Rattle.std.proofs.Common.{◌≡◌, ◌≤◌}
use Rattle.sync_shrink.specs.Counting.{held}
use Rattle.sync_shrink.proofs.tests.held.Given as goal

abbrev pub invariant-loop-thing : goal.invariant-loop-thing
invariant-loop-thing l = record {
  held : l.number ≡ held l.thing l.marks l.present;
  within : l.number ≤ l.thing;
}
