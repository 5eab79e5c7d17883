use Rattle.std.proofs.Common.{arith, rules, length, ◌+◌, ◌<◌}
use Rattle.text_scan.proofs.FirstLines.{first_ended, first_last, cut_at}
use Rattle.text_scan.proofs.cutting.first_line.Goals as goal

pub returns-then-byte-eq10-clause-cut : goal.returns-then-byte-eq10-clause-cut
returns-then-byte-eq10-clause-cut c =
    cut_at c.args.bytes.now _ _ c.without_return-text.result (c.loop-i.i + 1)
    (first_ended c.args.bytes.now c.loop-i.i c.without_return-text.result c.loop-i-test.true c.loop-i.invariant c.if-byte-eq10.true c.without_return-text.ensures)
    c.split_at.ensures.front c.split_at-then-byte-eq10.ensures.back

pub returns-clause-cut : goal.returns-clause-cut
returns-clause-cut c =
    let some : 0 < length c.args.bytes.now = search rules in
    cut_at c.args.bytes.now _ _ (length c.args.bytes.now) (length c.args.bytes.now) (first_last c.args.bytes.now some (λ k h. c.loop-i.invariant k (omega arith)))
    c.split_at-2.ensures.front c.split_at-2.ensures.back
