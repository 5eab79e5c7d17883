use Rattle.std.proofs.Common.{◌≡◌, ◌≤◌, ◌-◌, length}
use Rattle.std.specs.List.{range_with_len}
use Rattle.question_series.specs.Assumed.{row}
use Rattle.question_series.proofs.assuming.count_row.Given as goal

abbrev pub invariant-loop-b : goal.invariant-loop-b
invariant-loop-b l = (l.count ≡ length (row l.pairs.pairs l.a (range_with_len 1 (l.b - 1)))) × (l.count ≤ l.b - 1)
