-- The cells that a question needs, in their order.
use Rattle.std.specs.Prelude.{ℕ, Bool, true, false, ◌==◌, List, length, filter, ◌++◌, map}
use Rattle.fer_events.specs.Tables.{Trace, file_count}
use Rattle.value_coding.specs.declared.cell.Cell.{Cell}
use Rattle.value_coding.specs.declared.cell.Cell.TheVariants.{SlotOf, SizeOf, AttrOf, Segment}
use Rattle.std.specs.List.{flat_map, list_any, range_with_len}
use Rattle.litmus_syntax.specs.declared.pred.Pred.{Pred}
use Rattle.value_coding.specs.Readings.{readings, parts}
use Rattle.value_coding.specs.Segments.{segments}
use Rattle.value_coding.specs.declared.reading.Part.{Part}
use Rattle.value_coding.specs.declared.reading.Part.TheVariants.{Size, Key}

abbrev pub is_size : Part → Bool
is_size Size = true
is_size part = false

abbrev pub is_key : ℕ → Part → Bool
is_key key (Key number) = number == key
is_key key part = false

abbrev pub slot_cells : Trace → Pred → List Cell
slot_cells t pred = map (λ slot. SlotOf slot) (filter (λ slot. list_any (λ r. r.0 == slot) (readings t pred)) (range_with_len 0 (length t.slots)))

abbrev pub size_cells : Trace → Pred → List Cell
size_cells t pred = map (λ file. SizeOf file) (filter (λ file. list_any is_size (parts t pred file)) (range_with_len 0 (file_count t)))

abbrev pub attr_cells : Trace → Pred → ℕ → List Cell
attr_cells t pred file = map (AttrOf file) (filter (λ key. list_any (is_key key) (parts t pred file)) (range_with_len 0 (length t.keys)))

abbrev pub segment_cells : Trace → Pred → ℕ → List Cell
segment_cells t pred file = map (λ run. Segment file run.0 run.1) (segments t pred file)

-- the cells of a question: slots, sizes, attributes by file and key, segments by file and place
abbrev pub cells : Trace → Pred → List Cell
cells t pred =
    slot_cells t pred
    ++ size_cells t pred
    ++ flat_map (attr_cells t pred) (range_with_len 0 (file_count t))
    ++ flat_map (segment_cells t pred) (range_with_len 0 (file_count t))
