use Rattle.std.proofs.Common.{◌≡◌, ℕ, length, take}
use Rattle.std.specs.Prelude.{slice_index}
use Rattle.sync_parts.specs.Without.{new_number}
use Rattle.sync_parts.proofs.crashes.new_numbers.Given as goal

abbrev pub invariant-loop-place : goal.invariant-loop-place
invariant-loop-place l = record {
  numbered : (x : ℕ) → slice_index l.numbers x ≡ new_number (take l.place l.places) x;
  long : length l.numbers ≡ 129;
}
