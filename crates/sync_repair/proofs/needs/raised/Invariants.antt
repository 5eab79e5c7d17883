use Rattle.std.proofs.Common.{◌≡◌, map, take}
use Rattle.sync_repair.specs.Repairs.{raised}
use Rattle.sync_repair.proofs.needs.raised.Given as goal

abbrev pub invariant-loop-place : goal.invariant-loop-place
invariant-loop-place l = l.order ≡ map (raised l.event) (take l.place l.numbers)
