use Rattle.std.proofs.Common.{◌≡◌, ◌+◌, drop}
use Rattle.value_coding.specs.TextPlaces.{has_from}
use Rattle.value_coding.proofs.values.has_at.Given as goal

abbrev pub invariant-loop-i : goal.invariant-loop-i
invariant-loop-i l = has_from l.content l.at l.text ≡ has_from l.content (l.at + l.i) (drop l.i l.text)
