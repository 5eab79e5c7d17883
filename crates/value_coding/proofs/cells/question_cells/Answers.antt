use Rattle.std.proofs.Common.{ℕ, List, ◌++◌, ◌∙◌, ap}
use Rattle.std.specs.List.{flat_map, range_with_len}
use Rattle.fer_events.specs.Tables.{file_count}
use Rattle.value_coding.specs.declared.cell.Cell.{Cell}
use Rattle.value_coding.specs.declared.reading.Part.{Part}
use Rattle.value_coding.specs.Segments.{segments}
use Rattle.value_coding.specs.CellLists.{slots_of, sizes_of, attrs_of, file_segments}
use Rattle.value_coding.proofs.cells.question_cells.Goals as goal

pub returns : goal.returns
unfolding segments
returns c =
    c.in_ok-push_segments.ensures
    ∙ ap (λ (cells : List Cell). cells ++ flat_map (file_segments c.args.events.now c.as_slice-readings.result.now) (range_with_len 0 (file_count c.args.events.now)))
    (c.in_ok-push_attrs.ensures
    ∙ ap (λ (cells : List Cell). cells ++ flat_map (attrs_of c.args.events.now c.as_slice-readings.result.now) (range_with_len 0 (file_count c.args.events.now)))
    (c.in_ok-push_sizes.ensures ∙ ap (λ (cells : List Cell). cells ++ sizes_of c.args.events.now c.as_slice-readings.result.now) c.in_ok-cells.ensures))
    ∙ ap (λ (rs : List (ℕ × Part)).
    slots_of c.args.events.now rs
    ++ sizes_of c.args.events.now rs
    ++ flat_map (attrs_of c.args.events.now rs) (range_with_len 0 (file_count c.args.events.now))
    ++ flat_map (file_segments c.args.events.now rs) (range_with_len 0 (file_count c.args.events.now)))
    (c.as_slice-readings.ensures.value ∙ c.in_ok-readings.ensures)
