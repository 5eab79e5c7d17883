-- Private: the cells of readings, list by list. Only the contracts of private functions cite it.
use Rattle.std.specs.Prelude.{ℕ, ◌==◌, List, length, map, filter}
use Rattle.std.specs.List.{list_any, range_with_len}
use Rattle.fer_events.specs.declared.event.Event.{Event}
use Rattle.fer_events.specs.Tables.{Trace, file_count}
use Rattle.value_coding.specs.declared.cell.Cell.{Cell}
use Rattle.value_coding.specs.declared.cell.Cell.TheVariants.{SlotOf, SizeOf, AttrOf, Segment}
use Rattle.value_coding.specs.declared.reading.Part.{Part}
use Rattle.value_coding.specs.Readings.{read_of}
use Rattle.value_coding.specs.Segments.{cut_places}
use Rattle.value_coding.specs.QuestionCells.{is_size, is_key}

abbrev pub slots_of : Trace → List (ℕ × Part) → List Cell
slots_of t readings = map (λ slot. SlotOf slot) (filter (λ slot. list_any (λ r. r.0 == slot) readings) (range_with_len 0 (length t.slots)))

abbrev pub sizes_of : Trace → List (ℕ × Part) → List Cell
sizes_of t readings = map (λ file. SizeOf file) (filter (λ file. list_any is_size (read_of t readings file)) (range_with_len 0 (file_count t)))

abbrev pub attrs_of : Trace → List (ℕ × Part) → ℕ → List Cell
attrs_of t readings file = map (AttrOf file) (filter (λ key. list_any (is_key key) (read_of t readings file)) (range_with_len 0 (length t.keys)))

-- the segments of a file of which these parts are read
abbrev pub segments_of : List Event → List Part → ℕ → List Cell
segments_of events parts file = map (λ run. Segment file run.0 run.1) (cut_places events parts file)

abbrev pub file_segments : Trace → List (ℕ × Part) → ℕ → List Cell
file_segments t readings file = segments_of t.events (read_of t readings file) file
