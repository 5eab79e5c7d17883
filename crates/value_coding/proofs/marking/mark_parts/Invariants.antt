use Rattle.std.proofs.Common.{◌≡◌, ℕ, ◌<◌, ◌||◌, length, take}
use Rattle.std.specs.List.{flat_map}
use Rattle.value_coding.specs.Runs.{is_edge}
use Rattle.value_coding.specs.Segments.{part_edges}
use Rattle.value_coding.specs.Marks.{marked}
use Rattle.value_coding.proofs.marking.mark_parts.Given as goal

abbrev pub invariant-loop-part : goal.invariant-loop-part
invariant-loop-part l = record {
  len : length l.marks ≡ length l.fn.marks;
  set : (p : ℕ) → p < length l.fn.marks → marked l.marks p ≡ (marked l.fn.marks p || is_edge (flat_map part_edges (take l.part-index l.parts)) p);
}
