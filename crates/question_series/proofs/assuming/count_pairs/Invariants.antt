use Rattle.std.proofs.Common.{◌≡◌, ◌≤◌, ◌-◌, ◌*◌, length}
use Rattle.std.specs.List.{range_with_len}
use Rattle.question_series.specs.Assumed.{rows}
use Rattle.question_series.proofs.assuming.count_pairs.Given as goal

abbrev pub invariant-loop-a : goal.invariant-loop-a
invariant-loop-a l = (l.count ≡ length (rows l.pairs.n l.pairs.pairs (range_with_len 1 (l.a - 1)))) × (l.count ≤ (l.a - 1) * 128)
