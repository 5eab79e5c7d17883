use Rattle.std.proofs.Common.{ℕ, ◌==◌, not, List, take, ◌∙◌, ap}
use Rattle.std.specs.Prelude.{count_by, slice_index}
use Rattle.fer_events.specs.declared.event.Crash.{Crash}
use Rattle.sync_parts.specs.Parts.{without}
use Rattle.sync_parts.proofs.Tables.{table-order, table-count}
use Rattle.sync_parts.proofs.crashes.leave_out.Goals as goal

pub returns : goal.returns
returns c =
    let places = c.args.places.now in
    let numbers = c.new_numbers-numbers.result in
    let order = c.args.crash.now.order in
    let cut = c.args.crash.now.cut in
    let table = c.new_numbers-numbers.ensures in
    let crash : List ℕ → ℕ → Crash = λ o n. record { order = o; cut = n } in
    ap (λ o. crash o c.count_kept-cut.result) (c.renumber.ensures ∙ table-order numbers places c.requires.ascending table order)
    ∙ ap (crash (without places order))
    (c.count_kept-cut.ensures ∙ ap (λ o. count_by (λ x. not (slice_index numbers x == 0)) (take cut o)) c.as_slice.ensures
    ∙ table-count numbers places c.requires.ascending table (take cut order))
