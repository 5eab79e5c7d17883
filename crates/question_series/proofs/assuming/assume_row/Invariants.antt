use Rattle.std.proofs.Common.{◌≡◌, ◌++◌, ◌-◌}
use Rattle.std.specs.List.{range_with_len}
use Rattle.question_series.specs.Assumed.{kept_lits, row}
use Rattle.question_series.proofs.assuming.assume_row.Given as goal

abbrev pub invariant-loop-b : goal.invariant-loop-b
invariant-loop-b l = l.lits ≡ l.fn.lits ++ kept_lits l.pairs.n (row l.pairs.pairs l.a (range_with_len 1 (l.b - 1)))
