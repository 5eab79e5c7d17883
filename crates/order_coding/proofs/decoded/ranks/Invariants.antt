use Rattle.std.proofs.Common.{◌≡◌, ◌-◌, map}
use Rattle.std.specs.List.{range_with_len}
use Rattle.order_coding.specs.Decoded.{predecessors}
use Rattle.order_coding.proofs.decoded.ranks.Given as goal

abbrev pub invariant-loop-e : goal.invariant-loop-e
invariant-loop-e l = l.ranks.items ≡ map (predecessors l.n l.values) (range_with_len 1 (l.e - 1))
