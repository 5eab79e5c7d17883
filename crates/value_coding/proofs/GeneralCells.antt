-- General: what a question reads has its cells.
use Rattle.std.proofs.Common.{◌≡◌, ℕ, ◌<◌, true, eqb, List, ◌++◌, length, filter, Contains, refl, arith}
use Rattle.std.specs.List.{flat_map, list_any, range_with_len}
use Rattle.std.proofs.lemmas.Bool.{eq-eqb}
use Rattle.std.proofs.lemmas.List.Elements.{Contains-append_left, Contains-append_right}
use Rattle.clause_store.proofs.GeneralLists.{Contains-map, Contains-filter}
use Rattle.order_coding.proofs.GeneralLists.{range_contains}
use Rattle.litmus_syntax.specs.declared.pred.Pred.{Pred}
use Rattle.fer_events.specs.Tables.{Trace, file_count}
use Rattle.value_coding.specs.declared.cell.Cell.{Cell}
use Rattle.value_coding.specs.declared.cell.Cell.TheVariants.{SlotOf, SizeOf, AttrOf, Segment}
use Rattle.value_coding.specs.declared.reading.Part.{Part}
use Rattle.value_coding.specs.declared.reading.Part.TheVariants.{Size, Key}
use Rattle.value_coding.specs.QuestionCells.{is_size, is_key, slot_cells, size_cells, attr_cells, segment_cells, cells}
use Rattle.value_coding.specs.Readings.{may_hold, parts, readings}
use Rattle.value_coding.specs.Segments.{segments}
use Rattle.value_coding.proofs.Runs.{any-here}
use Rattle.value_coding.proofs.GeneralSegments.{Contains-flat_map}

module _ (t : Trace) (pred : Pred) where
  abbrev files : List ℕ
  files = range_with_len 0 (file_count t)

  abbrev attrs : List Cell
  attrs = flat_map (attr_cells t pred) files

  abbrev pieces : List Cell
  pieces = flat_map (segment_cells t pred) files

  a-file : (file : ℕ) → file < file_count t → Contains files file
  a-file file h = range_contains 0 (file_count t) file (omega arith) (omega arith)

  pub part-of : (slot file : ℕ) (part : Part) → Contains (readings t pred) (slot, part) → may_hold t slot file ≡ true → Contains (parts t pred file) part
  part-of slot file part h may =
      Contains-map (λ (r : ℕ × Part). r.1) (filter (λ r. may_hold t r.0 file) (readings t pred)) (slot, part)
      (Contains-filter (λ (r : ℕ × Part). may_hold t r.0 file) (readings t pred) (slot, part) h may)

  pub slot-cell : (slot : ℕ) (part : Part) → slot < length t.slots → Contains (readings t pred) (slot, part) → Contains (cells t pred) (SlotOf slot)
  slot-cell slot part l h =
      Contains-append_left (slot_cells t pred ++ size_cells t pred ++ attrs) pieces (SlotOf slot)
      (Contains-append_left (slot_cells t pred ++ size_cells t pred) attrs (SlotOf slot)
      (Contains-append_left (slot_cells t pred) (size_cells t pred) (SlotOf slot)
      (Contains-map (λ slot. SlotOf slot) (filter (λ slot. list_any (λ r. eqb r.0 slot) (readings t pred)) (range_with_len 0 (length t.slots))) slot
      (Contains-filter (λ slot. list_any (λ r. eqb r.0 slot) (readings t pred)) (range_with_len 0 (length t.slots)) slot
      (range_contains 0 (length t.slots) slot (omega arith) (omega arith))
      (any-here (λ (r : ℕ × Part). eqb r.0 slot) (readings t pred) (slot, part) h (eq-eqb slot slot refl))))))

  pub size-cell : (file : ℕ) → file < file_count t → Contains (parts t pred file) Size → Contains (cells t pred) (SizeOf file)
  size-cell file l h =
      Contains-append_left (slot_cells t pred ++ size_cells t pred ++ attrs) pieces (SizeOf file)
      (Contains-append_left (slot_cells t pred ++ size_cells t pred) attrs (SizeOf file)
      (Contains-append_right (slot_cells t pred) (size_cells t pred) (SizeOf file)
      (Contains-map (λ file. SizeOf file) (filter (λ file. list_any is_size (parts t pred file)) (range_with_len 0 (file_count t))) file
      (Contains-filter (λ file. list_any is_size (parts t pred file)) (range_with_len 0 (file_count t)) file (a-file file l)
      (any-here is_size (parts t pred file) Size h refl)))))

  pub attr-cell : (file key : ℕ) → file < file_count t → key < length t.keys → Contains (parts t pred file) (Key key) → Contains (cells t pred) (AttrOf file key)
  attr-cell file key l k h =
      Contains-append_left (slot_cells t pred ++ size_cells t pred ++ attrs) pieces (AttrOf file key)
      (Contains-append_right (slot_cells t pred ++ size_cells t pred) attrs (AttrOf file key)
      (Contains-flat_map (attr_cells t pred) files file (AttrOf file key) (a-file file l)
      (Contains-map (AttrOf file) (filter (λ key. list_any (is_key key) (parts t pred file)) (range_with_len 0 (length t.keys))) key
      (Contains-filter (λ key. list_any (is_key key) (parts t pred file)) (range_with_len 0 (length t.keys)) key
      (range_contains 0 (length t.keys) key (omega arith) (omega arith))
      (any-here (is_key key) (parts t pred file) (Key key) h (eq-eqb key key refl))))))

  pub segment-cell : (file : ℕ) (run : ℕ × ℕ) → file < file_count t → Contains (segments t pred file) run → Contains (cells t pred) (Segment file run.0 run.1)
  segment-cell file run l h =
      Contains-append_right (slot_cells t pred ++ size_cells t pred ++ attrs) pieces (Segment file run.0 run.1)
      (Contains-flat_map (segment_cells t pred) files file (Segment file run.0 run.1) (a-file file l)
      (Contains-map (λ (run : ℕ × ℕ). Segment file run.0 run.1) (segments t pred file) run h))
