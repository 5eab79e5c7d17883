use Rattle.std.proofs.Common.{◌≡◌, ℕ, ◌<◌, take, vec_len}
use Rattle.value_coding.specs.Segments.{is_in_part}
use Rattle.value_coding.specs.Marks.{marked}
use Rattle.value_coding.proofs.marking.read_marks.Given as goal

abbrev pub invariant-loop-part : goal.invariant-loop-part
invariant-loop-part l = record {
  len : vec_len l.marks ≡ l.end;
  set : (p : ℕ) → p < l.end → marked l.marks.items p ≡ is_in_part (take l.part-index l.parts) p;
}
