use Rattle.std.proofs.Common.{◌≡◌, ◌-◌}
use Rattle.order_coding.proofs.MarkTraces.{marks}
use Rattle.witness_replay.proofs.tests.marks.Given as goal

abbrev pub invariant-loop-e : goal.invariant-loop-e
invariant-loop-e l = l.events ≡ marks l.joined (l.e - 1)
