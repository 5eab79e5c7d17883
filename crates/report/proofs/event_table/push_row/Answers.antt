use Rattle.std.proofs.Common.{◌+◌, ◌∷◌, [], filter, ◌∙◌}
use Rattle.fer_events.specs.Rows.{is_listed, row_upto}
use Rattle.fer_events.proofs.RowLaws.{row_more}
use Rattle.report.proofs.Lines.{pairs_more}
use Rattle.report.proofs.event_table.push_row.Goals as goal

pub loop-place-preserved : goal.loop-place-preserved
loop-place-preserved c =
    let p = c.args.pairs.now in
    let a = c.args.first in
    let k = c.loop-place.place in
    c.in_ok-push_if_listed.ensures
    ∙ pairs_more c.args.out.now.items c.loop-place.out.items (row_upto p a k) (filter (is_listed p) ((a, k + 1) ∷ [])) (row_upto p a (k + 1)) c.loop-place.invariant (row_more p a k)
