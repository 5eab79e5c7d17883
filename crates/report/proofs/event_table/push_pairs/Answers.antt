use Rattle.std.proofs.Common.{◌≡◌, ℕ, ◌+◌, ◌++◌, List, ◌∙◌, ap, arith}
use Rattle.std.specs.List.{flat_map}
use Rattle.fer_events.specs.Rows.{row_upto, rows_upto}
use Rattle.fer_events.proofs.RowLaws.{rows_more, all_rows}
use Rattle.report.specs.EventTable.{keep_line}
use Rattle.report.proofs.Lines.{pairs_more}
use Rattle.report.proofs.event_table.push_pairs.Goals as goal

pub loop-place-preserved : goal.loop-place-preserved
loop-place-preserved c =
    let p = c.args.pairs.now in
    let k = c.loop-place.place in
    c.in_ok-push_row.ensures
    ∙ pairs_more c.args.out.now.items c.loop-place.out.items (rows_upto p k) (row_upto p (k + 1) p.n) (rows_upto p (k + 1)) c.loop-place.invariant (rows_more p k)

pub returns : goal.returns
returns c =
    let out = c.args.out.now.items in
    let p = c.args.pairs.now in
    let all : c.loop-place.place ≡ p.n = omega (arith, c.n-place-end.ensures.n) in
    c.loop-place.invariant ∙ ap (λ (k : ℕ). out ++ flat_map keep_line (rows_upto p k)) all
    ∙ ap (λ (l : List (ℕ × ℕ)). out ++ flat_map keep_line l) (all_rows p c.n-place-end.ensures.listed)
