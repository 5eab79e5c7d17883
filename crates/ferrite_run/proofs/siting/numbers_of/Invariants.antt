use Rattle.std.proofs.Common.{◌≡◌, take}
use Rattle.ferrite_run.specs.Repair.{site_numbers}
use Rattle.ferrite_run.proofs.siting.numbers_of.Given as goal

abbrev pub invariant-loop-place : goal.invariant-loop-place
invariant-loop-place l = l.numbers ≡ site_numbers (take l.place l.set)
