use Rattle.std.proofs.Common.{◌≡◌, map}
use Rattle.std.specs.List.{range_with_len}
use Rattle.ferrite_run.specs.Usable.{is_named}
use Rattle.ferrite_run.proofs.siting.set_of.Given as goal

abbrev pub invariant-loop-place : goal.invariant-loop-place
invariant-loop-place l = l.set.items ≡ map (is_named l.numbers) (range_with_len 1 l.place)
