-- Private: runs of places found by marks, one for each place that is read and one for each edge. Only the contracts of
-- private functions cite it.
use Rattle.std.specs.Prelude.{ℕ, ◌+◌, ◌-◌, Bool, false, not, ◌&&◌, ◌||◌, ◌==◌, List, length, map, filter, slice_index_or}
use Rattle.std.specs.List.{prefix_len, range_with_len}
use Rattle.value_coding.specs.declared.cell.Cell.{Cell}
use Rattle.value_coding.specs.declared.cell.Cell.TheVariants.{Segment}

-- the place has a mark
abbrev pub marked : List Bool → ℕ → Bool
marked marks place = slice_index_or marks place false

-- a run begins at the place, and goes on through it
abbrev pub begins_marked : List Bool → List Bool → ℕ → Bool
begins_marked reads edges place = marked reads place && (marked edges place || place == 0 || not (marked reads (place - 1)))

abbrev pub goes_on_marked : List Bool → List Bool → ℕ → Bool
goes_on_marked reads edges place = marked reads place && not (marked edges place)

-- the run that begins at the place, as a cell
abbrev pub marked_run : List Bool → List Bool → ℕ → ℕ → Cell
marked_run reads edges file place =
    Segment file place (1 + prefix_len (goes_on_marked reads edges) (range_with_len (place + 1) (length reads - (place + 1))))

abbrev pub marked_runs : List Bool → List Bool → ℕ → List Cell
marked_runs reads edges file = map (marked_run reads edges file) (filter (begins_marked reads edges) (range_with_len 0 (length reads)))
