use Rattle.std.proofs.Common.{◌≡◌, ℕ, ◌<◌, ◌&&◌, ◌||◌, leb, ltb, length}
use Rattle.value_coding.specs.Marks.{marked}
use Rattle.value_coding.proofs.marking.mark_places.Given as goal

abbrev pub invariant-loop-place : goal.invariant-loop-place
invariant-loop-place l = record {
  len : length l.marks ≡ length l.fn.marks;
  set : (p : ℕ) → p < length l.fn.marks → marked l.marks p ≡ (marked l.fn.marks p || (leb l.first p && ltb p l.place));
}
