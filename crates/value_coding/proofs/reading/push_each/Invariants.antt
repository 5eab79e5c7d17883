use Rattle.std.proofs.Common.{◌≡◌, ◌++◌, map, take}
use Rattle.value_coding.proofs.reading.push_each.Given as goal

abbrev pub invariant-loop-part : goal.invariant-loop-part
invariant-loop-part l = l.out.items ≡ l.fn.out.items ++ map (λ part. (l.slot, part)) (take l.part-index l.parts)
