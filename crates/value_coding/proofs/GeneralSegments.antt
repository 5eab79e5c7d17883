-- General: each event and each range that a question reads has all of a segment or none of it.
use Rattle.std.proofs.Common.{◌≡◌, ◌⊎◌, inl, inr, ℕ, ◌+◌, ◌<◌, ◌≤◌, true, false, eqb, List, [], ◌∷◌, ◌++◌, length, filter, Contains, refl, sym, subst, arith}
use Rattle.std.specs.List.{All, flat_map, list_any, range_with_len}
use Rattle.std.proofs.lemmas.Bool.Decides.{nat_tests}
use Rattle.std.proofs.lemmas.List.Concat.{flat_map-cons}
use Rattle.std.proofs.lemmas.List.Elements.{All-append, All-map, All-contains, Contains-append_left, Contains-append_right}
use Rattle.clause_store.proofs.GeneralLists.{Contains-head, Contains-tail, Contains-cons_cases, Contains-nil, Contains-from_filter}
use Rattle.order_coding.proofs.GeneralLists.{All-from_contains, All-flat_map, range_within}
use Rattle.litmus_syntax.specs.declared.pred.Pred.{Pred}
use Rattle.fer_events.specs.declared.event.Event.{Event}
use Rattle.fer_events.specs.declared.event.Effect.{Effect}
use Rattle.fer_events.specs.declared.event.Effect.TheVariants.{Bytes, Grow, Cut, SetAttr, PutName, ClearName, See, Nothing}
use Rattle.fer_events.specs.Tables.{Trace, IsTrace, file_count}
use Rattle.fer_events.specs.States.{after_numbers, start_state}
use Rattle.value_coding.specs.declared.cell.Cell.{Cell}
use Rattle.value_coding.specs.declared.cell.Cell.TheVariants.{SlotOf, SizeOf, AttrOf, Segment}
use Rattle.value_coding.specs.Cells.{IsThere, cell_value}
use Rattle.value_coding.specs.Runs.{AllOrNone, IsRun}
use Rattle.value_coding.specs.declared.reading.Part.{Part}
use Rattle.value_coding.specs.declared.reading.Part.TheVariants.{Places}
use Rattle.value_coding.specs.Segments.{has_place, is_read, part_edges, event_edges, edges, file_places, cut_places, segments}
use Rattle.value_coding.specs.QuestionCells.{is_size, is_key, slot_cells, size_cells, attr_cells, segment_cells, cells}
use Rattle.value_coding.specs.Readings.{parts, readings}
use Rattle.value_coding.specs.Writers.{carries, value_by}
use Rattle.value_coding.specs.Undivided.{edges_of, KeepsTogether, IsUndivided}
use Rattle.value_coding.specs.LastWriter.{last_writer}
use Rattle.value_coding.proofs.Decides.{last-decides}
use Rattle.value_coding.proofs.Runs.{any-here, run-is, run-of}

pub Contains-flat_map :
    {A B : Type 0} (f : A → List B) (xs : List A) (x : A) (y : B) → Contains xs x → Contains (f x) y → Contains (flat_map f xs) y
Contains-flat_map f [] x y h k = absurd (Contains-nil x h)
Contains-flat_map {A} {B} f (z ∷ xs) x y h k =
    rw (flat_map-cons f z xs)
    (elim (Contains-cons_cases z xs x h) [
      | inl e ↦ Contains-append_left (f z) (flat_map f xs) y (subst (λ (a : A). Contains (f a) y) (sym e) k)
      | inr later ↦ Contains-append_right (f z) (flat_map f xs) y (Contains-flat_map f xs x y later k)
    ])

first-here : (a b : ℕ) → Contains (a ∷ b ∷ []) a
first-here a b = Contains-head a (b ∷ [])

second-here : (a b : ℕ) → Contains (a ∷ b ∷ []) b
second-here a b = Contains-tail a (b ∷ []) b (Contains-head b [])

-- no end of a range inside: all or none
all-or-none : (at len start end : ℕ) → (start ≤ at) ⊎ (at + len ≤ start) → (end ≤ at) ⊎ (at + len ≤ end) → AllOrNone at len start end
all-or-none at len start end (inl low) (inl high) = inr (inr high)
all-or-none at len start end (inl low) (inr high) = inl (low, high)
all-or-none at len start end (inr low) high = inr (inl low)

together :
    (at len : ℕ) (effect : Effect) → ((edge : ℕ) → Contains (edges_of effect) edge → (edge ≤ at) ⊎ (at + len ≤ edge))
    → KeepsTogether at len effect
together at len (Bytes start text) h =
    all-or-none at len start (start + length text) (h start (first-here start (start + length text)))
    (h (start + length text) (second-here start (start + length text)))
together at len (Grow start text size) h =
    all-or-none at len start (start + length text) (h start (first-here start (start + length text)))
    (h (start + length text) (second-here start (start + length text)))
together at len (Cut size) h = h size (Contains-head size [])
together at len (SetAttr key value) h = tt
together at len PutName h = tt
together at len ClearName h = tt
together at len (See word) h = tt
together at len Nothing h = tt

-- the edges of a file have those of its events and of what is read of it
event-edge :
    (t : Trace) (pred : Pred) (file : ℕ) (e : Event) (edge : ℕ) → Contains t.events e → carries e.file file ≡ true
    → Contains (edges_of e.effect) edge → Contains (edges t pred file) edge
event-edge t pred file e edge there is h =
    let own : Contains (event_edges file e) edge = rw is h in
    Contains-append_left (flat_map (event_edges file) t.events) (flat_map part_edges (parts t pred file)) edge
    (Contains-flat_map (event_edges file) t.events e edge there own)

part-edge :
    (t : Trace) (pred : Pred) (file : ℕ) (part : Part) (edge : ℕ) → Contains (parts t pred file) part
    → Contains (part_edges part) edge → Contains (edges t pred file) edge
part-edge t pred file part edge there h =
    Contains-append_right (flat_map (event_edges file) t.events) (flat_map part_edges (parts t pred file)) edge
    (Contains-flat_map part_edges (parts t pred file) part edge there h)

module _ (t : Trace) (pred : Pred) (file : ℕ) where
  pub segment-is : (run : ℕ × ℕ) → Contains (segments t pred file) run → IsRun (is_read t pred file) (edges t pred file) file_places run.0 run.1
  unfolding segments cut_places
  segment-is run h = run-is (is_read t pred file) (edges t pred file) file_places run h

  pub segment-of : (place : ℕ) → place < file_places → is_read t pred file place ≡ true → (run : ℕ × ℕ) × Contains (segments t pred file) run × (run.0 ≤ place) × (place < run.0 + run.1)
  unfolding segments cut_places
  segment-of place h r = run-of (is_read t pred file) (edges t pred file) file_places place h r

  pub segment-whole : (run : ℕ × ℕ) → Contains (segments t pred file) run → IsUndivided t.events (Segment file run.0 run.1)
  segment-whole run h =
      All-from_contains (λ (e : Event). carries e.file file ≡ true → KeepsTogether run.0 run.1 e.effect) t.events
      (λ e there is. together run.0 run.1 e.effect (λ edge own. (segment-is run h).no_edge edge (event-edge t pred file e edge there is own)))

  not-empty : (len : ℕ) → 0 < len → eqb len 0 ≡ false
  not-empty len h = grind (arith, nat_tests)

  pub segment-read :
      (run : ℕ × ℕ) (at len : ℕ) → Contains (segments t pred file) run → Contains (parts t pred file) (Places at len)
      → 0 < len → AllOrNone run.0 run.1 at (at + len)
  segment-read run at len h there some =
      let own : part_edges (Places at len) ≡ at ∷ (at + len) ∷ [] = rw (not-empty len some) refl in
      let edge : (place : ℕ) → Contains (at ∷ (at + len) ∷ []) place → (place ≤ run.0) ⊎ (run.0 + run.1 ≤ place) =
      λ place c. (segment-is run h).no_edge place (part-edge t pred file (Places at len) place there (subst (λ (xs : List ℕ). Contains xs place) (sym own) c)) in
      all-or-none run.0 run.1 at (at + len) (edge at (first-here at (at + len))) (edge (at + len) (second-here at (at + len)))

  within-range : (at len place : ℕ) → at ≤ place → place < at + len → has_place place (Places at len) ≡ true
  within-range at len place low high = grind (arith, nat_tests)

  pub place-read : (at len place : ℕ) → Contains (parts t pred file) (Places at len) → at ≤ place → place < at + len → is_read t pred file place ≡ true
  place-read at len place there low high = any-here (has_place place) (parts t pred file) (Places at len) there (within-range at len place low high)

pub places-are : file_places ≡ 65536
unfolding file_places
places-are = refl

-- a cell of the question is there and whole
module _ (t : Trace) (pred : Pred) where
  abbrev Serves : Cell → Type 0
  Serves cell = IsThere t cell × IsUndivided t.events cell

  slots-serve : All Serves (slot_cells t pred)
  slots-serve =
      All-map Serves (λ slot. SlotOf slot) (filter (λ slot. list_any (λ r. eqb r.0 slot) (readings t pred)) (range_with_len 0 (length t.slots)))
      (All-from_contains (λ slot. Serves (SlotOf slot)) _ (λ slot h.
      let kept = Contains-from_filter (λ slot. list_any (λ r. eqb r.0 slot) (readings t pred)) (range_with_len 0 (length t.slots)) slot h in
      let low = range_within 0 (length t.slots) slot kept.0 in (omega (arith, low.1), tt)))

  sizes-serve : All Serves (size_cells t pred)
  sizes-serve =
      All-map Serves (λ file. SizeOf file) (filter (λ file. list_any is_size (parts t pred file)) (range_with_len 0 (file_count t)))
      (All-from_contains (λ file. Serves (SizeOf file)) _ (λ file h.
      let kept = Contains-from_filter (λ file. list_any is_size (parts t pred file)) (range_with_len 0 (file_count t)) file h in
      let low = range_within 0 (file_count t) file kept.0 in (omega (arith, low.1), tt)))

  attrs-serve : (file : ℕ) → Contains (range_with_len 0 (file_count t)) file → All Serves (attr_cells t pred file)
  attrs-serve file there =
      let below = range_within 0 (file_count t) file there in
      All-map Serves (AttrOf file) (filter (λ key. list_any (is_key key) (parts t pred file)) (range_with_len 0 (length t.keys)))
      (All-from_contains (λ key. Serves (AttrOf file key)) _ (λ key h.
      let kept = Contains-from_filter (λ key. list_any (is_key key) (parts t pred file)) (range_with_len 0 (length t.keys)) key h in
      let low = range_within 0 (length t.keys) key kept.0 in ((omega (arith, below.1), omega (arith, low.1)), tt)))

  segments-serve : (file : ℕ) → Contains (range_with_len 0 (file_count t)) file → All Serves (segment_cells t pred file)
  segments-serve file there =
      let below = range_within 0 (file_count t) file there in
      All-map Serves (λ run. Segment file run.0 run.1) (segments t pred file)
      (All-from_contains (λ (run : ℕ × ℕ). Serves (Segment file run.0 run.1)) (segments t pred file) (λ run h.
      ((omega (arith, below.1), omega (arith, (segment-is t pred file run h).within, places-are)), segment-whole t pred file run h)))

  cells-serve : All Serves (cells t pred)
  cells-serve =
      All-append Serves (slot_cells t pred ++ size_cells t pred ++ flat_map (attr_cells t pred) (range_with_len 0 (file_count t))) (flat_map (segment_cells t pred) (range_with_len 0 (file_count t)))
      (All-append Serves (slot_cells t pred ++ size_cells t pred) (flat_map (attr_cells t pred) (range_with_len 0 (file_count t)))
      (All-append Serves (slot_cells t pred) (size_cells t pred) slots-serve sizes-serve)
      (All-flat_map Serves (attr_cells t pred) (range_with_len 0 (file_count t)) attrs-serve))
      (All-flat_map Serves (segment_cells t pred) (range_with_len 0 (file_count t)) segments-serve)

  pub cell-serves : (cell : Cell) → Contains (cells t pred) cell → IsThere t cell × IsUndivided t.events cell
  cell-serves cell h = All-contains Serves (cells t pred) cell cells-serve h

  -- so each cell of the question holds what its last writer gave it
  pub question-decides :
      (cell : Cell) (order : List ℕ) → IsTrace t → Contains (cells t pred) cell
      → cell_value (after_numbers t.events (start_state t) order) cell ≡ value_by t cell (last_writer t.events cell order)
  question-decides cell order rules h = let serves = cell-serves cell h in last-decides t cell order rules serves.0 serves.1
