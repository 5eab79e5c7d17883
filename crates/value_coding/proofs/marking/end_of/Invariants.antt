use Rattle.std.proofs.Common.{◌≡◌, ℕ, ◌<◌, ◌≤◌, false, take}
use Rattle.value_coding.specs.Segments.{is_in_part}
use Rattle.value_coding.proofs.marking.end_of.Given as goal

abbrev pub invariant-loop-part : goal.invariant-loop-part
invariant-loop-part l = record {
  within : l.end ≤ 65536;
  behind : (p : ℕ) → l.end ≤ p → p < 65536 → is_in_part (take l.part-index l.parts) p ≡ false;
}
