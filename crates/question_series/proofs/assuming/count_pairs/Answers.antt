use Rattle.std.proofs.Common.{◌≤◌, arith}
use Rattle.question_series.proofs.Rows.{count-rows}
use Rattle.question_series.proofs.assuming.count_pairs.Goals as goal

pub loop-a-preserved : goal.loop-a-preserved
loop-a-preserved c =
    let some : 1 ≤ c.loop-a.a = omega (arith, c.loop-a.auto) in (
      count-rows c.args.pairs.now.n c.args.pairs.now.pairs c.loop-a.a c.loop-a.count c.count_row-count.result some c.loop-a.invariant.0 c.count_row-count.ensures.count,
      omega (arith, c.loop-a.invariant.1, c.count_row-count.ensures.few, some),
    )
