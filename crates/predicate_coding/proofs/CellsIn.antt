-- A segment among the cells of a question is one of its file.
use Rattle.std.proofs.Common.{ℕ, eqb, ◌++◌, length, filter, Contains}
use Rattle.std.specs.List.{All, flat_map, list_any, range_with_len}
use Rattle.std.proofs.lemmas.List.Elements.{All-append, All-contains, All-map}
use Rattle.litmus_syntax.specs.declared.pred.Pred.{Pred}
use Rattle.fer_events.specs.Tables.{Trace, file_count}
use Rattle.order_coding.proofs.GeneralLists.{All-from_contains, All-flat_map}
use Rattle.value_coding.specs.declared.cell.Cell.{Cell}
use Rattle.value_coding.specs.declared.cell.Cell.TheVariants.{SlotOf, SizeOf, AttrOf, Segment}
use Rattle.value_coding.specs.QuestionCells.{is_size, is_key, slot_cells, size_cells, attr_cells, segment_cells, cells}
use Rattle.value_coding.specs.Readings.{parts, readings}
use Rattle.value_coding.specs.Segments.{segments}

module _ (t : Trace) (pred : Pred) where
  abbrev IsCut : Cell → Type 0
  IsCut (Segment file at len) = Contains (segments t pred file) (at, len)
  IsCut (SlotOf slot) = Unit {0}
  IsCut (SizeOf file) = Unit {0}
  IsCut (AttrOf file key) = Unit {0}

  all-cut : All IsCut (cells t pred)
  all-cut =
      All-append IsCut (slot_cells t pred ++ size_cells t pred ++ flat_map (attr_cells t pred) (range_with_len 0 (file_count t))) (flat_map (segment_cells t pred) (range_with_len 0 (file_count t)))
      (All-append IsCut (slot_cells t pred ++ size_cells t pred) (flat_map (attr_cells t pred) (range_with_len 0 (file_count t)))
      (All-append IsCut (slot_cells t pred) (size_cells t pred)
      (All-map IsCut (λ slot. SlotOf slot) (filter (λ slot. list_any (λ r. eqb r.0 slot) (readings t pred)) (range_with_len 0 (length t.slots))) (All-from_contains (λ slot. IsCut (SlotOf slot)) _ (λ slot h. tt)))
      (All-map IsCut (λ file. SizeOf file) (filter (λ file. list_any is_size (parts t pred file)) (range_with_len 0 (file_count t))) (All-from_contains (λ file. IsCut (SizeOf file)) _ (λ file h. tt))))
      (All-flat_map IsCut (attr_cells t pred) (range_with_len 0 (file_count t)) (λ file there.
      All-map IsCut (AttrOf file) (filter (λ key. list_any (is_key key) (parts t pred file)) (range_with_len 0 (length t.keys))) (All-from_contains (λ key. IsCut (AttrOf file key)) _ (λ key h. tt)))))
      (All-flat_map IsCut (segment_cells t pred) (range_with_len 0 (file_count t)) (λ file there.
      All-map IsCut (λ run. Segment file run.0 run.1) (segments t pred file) (All-from_contains (λ (run : ℕ × ℕ). IsCut (Segment file run.0 run.1)) (segments t pred file) (λ run h. h))))

  pub segment-in : (file at len : ℕ) → Contains (cells t pred) (Segment file at len) → Contains (segments t pred file) (at, len)
  segment-in file at len h = All-contains IsCut (cells t pred) (Segment file at len) all-cut h
