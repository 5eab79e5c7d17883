use Rattle.std.proofs.Common.{◌≡◌, ◌-◌}
use Rattle.std.specs.List.{range_with_len}
use Rattle.question_series.specs.Assumed.{kept_lits, rows}
use Rattle.question_series.proofs.assuming.kept_lits.Given as goal

abbrev pub invariant-loop-a : goal.invariant-loop-a
invariant-loop-a l = l.lits ≡ kept_lits l.pairs.n (rows l.pairs.n l.pairs.pairs (range_with_len 1 (l.a - 1)))
