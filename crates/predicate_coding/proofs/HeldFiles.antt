-- An atom on a path is true exactly where its slot holds a file that has what is asked.
use Rattle.std.proofs.Common.{◌≡◌, ◌⊎◌, inl, inr, ℕ, ◌+◌, ◌<◌, Bool, true, false, ◌&&◌, ◌||◌, List, [], ◌∷◌, length, Option, Some, None, IfSome, slice_get, unwrap_or, Contains, refl, sym, ◌∙◌, ap, subst, arith}
use Rattle.std.specs.List.{All, flat_map, list_any, range_with_len}
use Rattle.std.proofs.lemmas.Bool.{eqb-true, eq-eqb}
use Rattle.std.proofs.lemmas.List.Elements.{All-append, All-nil, All-cons, All-head, All-tail, All-contains}
use Rattle.std.proofs.lemmas.Option.{slice_get_within, get_or_from_slice_get}
use Rattle.litmus_syntax.specs.declared.pred.Pred.{Pred}
use Rattle.clause_store.specs.declared.Lit.{Lit}
use Rattle.clause_store.specs.Clauses.{negated}
use Rattle.clause_store.specs.Truth.{is_true, MakesTrue, MakesAllTrue}
use Rattle.clause_store.proofs.GeneralLists.{Contains-head_is, Contains-tail, Contains-filter, Contains-from_filter}
use Rattle.fer_events.specs.declared.event.Event.{Event}
use Rattle.fer_events.specs.States.{State, after_numbers, start_state}
use Rattle.fer_events.specs.Tables.{Trace, IsTrace, IsEventOf, file_count}
use Rattle.fer_events.specs.Truth.{on_file}
use Rattle.order_coding.proofs.GeneralLists.{All-left, All-right, All-flat_map, All-from_flat_map, range_contains}
use Rattle.value_coding.specs.declared.cell.Cell.{Cell}
use Rattle.value_coding.specs.declared.cell.Cell.TheVariants.{SlotOf, SizeOf, AttrOf, Segment}
use Rattle.value_coding.specs.Cells.{Held, held_by, cell_value}
use Rattle.value_coding.specs.declared.reading.Part.{Part}
use Rattle.value_coding.specs.declared.reading.Part.TheVariants.{Name}
use Rattle.value_coding.specs.Readings.{readings, parts, may_hold, is_put}
use Rattle.value_coding.specs.QuestionCells.{cells}
use Rattle.value_coding.specs.Writers.{carries, writers, value_by}
use Rattle.value_coding.specs.LastClauses.{last_lit, named_writer}
use Rattle.value_coding.proofs.GeneralCandidates.{candidate}
use Rattle.value_coding.proofs.GeneralCells.{part-of, slot-cell}
use Rattle.order_coding.proofs.GeneralClauses.{truth, of-two, two, of-three, three}
use Rattle.predicate_coding.specs.declared.asked.Asked.{Asked}
use Rattle.predicate_coding.specs.Asking.{meets}
use Rattle.value_coding.specs.declared.cell.CodedCell.{CodedCell}
use Rattle.predicate_coding.specs.CellChoices.{choices, choice_value, yes_lit, candidates, is_slot, slot_cells, file_in}
use Rattle.predicate_coding.specs.Fits.{fits_lit, fits_clauses}
use Rattle.predicate_coding.specs.AtomNodes.{as_held, as_held_in, file_node}
use Rattle.predicate_coding.proofs.Logic.{and-first, and-second, same-test}
use Rattle.predicate_coding.proofs.Meets.{parts_of}
use Rattle.predicate_coding.proofs.Told.{Tells}
use Rattle.predicate_coding.proofs.Fits.{negated-yes, negated-no, of-three-not, three-not, chosen, Keyed, file-fits, fits-made}

-- a candidate is a file of the trace
carries-same : (o : Option ℕ) (f : ℕ) → carries o f ≡ true → o ≡ Some f
carries-same None f e = cc
carries-same (Some g) f e = ap (λ (n : ℕ). Some n) (eqb-true g f e)

or-cases : (a b : Bool) → (a || b) ≡ true → (a ≡ true) ⊎ (b ≡ true)
or-cases true b e = inl refl
or-cases false b e = inr e

pub any-of : {A : Type 0} (p : A → Bool) (xs : List A) → list_any p xs ≡ true → (x : A) × Contains xs x × (p x ≡ true)
any-of p [] e = cc
any-of p (x ∷ xs) e = elim (or-cases (p x) (list_any p xs) e) [
  | inl here ↦ (x, Contains-head_is x xs x refl, here)
  | inr later ↦ let (y, h, is) = any-of p xs later in (y, Contains-tail x xs y h, is)
]

of-some : (P : ℕ → Type 0) (o : Option ℕ) (f : ℕ) → o ≡ Some f → IfSome o P → P f
of-some P o f e h = subst (λ (o : Option ℕ). IfSome o P) e h

start-slot : (P : ℕ → Type 0) (slots : List (Option ℕ)) (slot f : ℕ) (o : Option (Option ℕ)) → slice_get slots slot ≡ o → All (λ held. IfSome held P) slots → unwrap_or o None ≡ Some f → P f
start-slot P slots slot f None e all h = cc
start-slot P slots slot f (Some held) e all h =
    of-some P held f h (All-contains (λ held. IfSome held P) slots held all (slot, slice_get_within slots slot held e, get_or_from_slice_get slots slot held held e))

pub may-there : (t : Trace) (slot f : ℕ) → IsTrace t → may_hold t slot f ≡ true → f < file_count t
may-there t slot f rules h =
    elim (or-cases (carries (unwrap_or (slice_get t.start.slots slot) None) f) (list_any (λ e. carries e.slot slot && carries e.file f && is_put e.effect) t.events) h) [
      | inl start ↦
          start-slot (λ f. f < file_count t) t.start.slots slot f (slice_get t.start.slots slot) refl rules.files_there
          (carries-same (unwrap_or (slice_get t.start.slots slot) None) f start)
      | inr event ↦
          let (e, there, is) = any-of (λ (e : Event). carries e.slot slot && carries e.file f && is_put e.effect) t.events event in
          of-some (λ f. f < file_count t) e.file f
          (carries-same e.file f (and-second (carries e.slot slot) (carries e.file f) (and-first (carries e.slot slot && carries e.file f) (is_put e.effect) is)))
          (All-contains (IsEventOf t) t.events e rules.events_fit there).file_there
    ]

-- the clauses of one choice of a slot
module _ (t : Trace) (v : List Bool) (slot first : ℕ) (own last : Lit) (test : ℕ → Bool) where
  pub held-of :
      (o : Option ℕ) → MakesAllTrue v (as_held t slot first own last o) → truth v last
      → ((f : ℕ) → o ≡ Some f → is_true v (fits_lit t slot first f) ≡ test f) → is_true v own ≡ on_file o test
  held-of None all l fits = negated-no v own (of-two v last (negated own) (All-head (MakesTrue v) (negated last ∷ negated own ∷ []) [] all) l)
  held-of (Some f) all l fits =
      let up = All-head (MakesTrue v) (negated last ∷ negated (fits_lit t slot first f) ∷ own ∷ []) ((negated last ∷ fits_lit t slot first f ∷ negated own ∷ []) ∷ []) all in
      let rest = All-tail (MakesTrue v) (negated last ∷ negated (fits_lit t slot first f) ∷ own ∷ []) ((negated last ∷ fits_lit t slot first f ∷ negated own ∷ []) ∷ []) all in
      let down = All-head (MakesTrue v) (negated last ∷ fits_lit t slot first f ∷ negated own ∷ []) [] rest in
      same-test (is_true v own) (is_true v (fits_lit t slot first f)) (λ y. of-three-not v last (fits_lit t slot first f) own down l y)
      (λ y. of-three v last (fits_lit t slot first f) own up l y)
      ∙ fits f refl

  pub held-made :
      (o : Option ℕ) → (truth v last → is_true v own ≡ on_file o test)
      → ((f : ℕ) → o ≡ Some f → truth v last → is_true v (fits_lit t slot first f) ≡ test f)
      → MakesAllTrue v (as_held t slot first own last o)
  held-made None is fits = All-cons (MakesTrue v) (negated last ∷ negated own ∷ []) [] (two v last (negated own) (λ l. negated-yes v own (is l))) (All-nil (MakesTrue v))
  held-made (Some f) is fits =
      All-cons (MakesTrue v) (negated last ∷ negated (fits_lit t slot first f) ∷ own ∷ []) ((negated last ∷ fits_lit t slot first f ∷ negated own ∷ []) ∷ [])
      (three v last (fits_lit t slot first f) own (λ l y. is l ∙ sym (fits f refl l) ∙ y))
      (All-cons (MakesTrue v) (negated last ∷ fits_lit t slot first f ∷ negated own ∷ []) []
      (three-not v last (fits_lit t slot first f) own (λ l y. fits f refl l ∙ sym (is l) ∙ y)) (All-nil (MakesTrue v)))

pub is-slot : (slot : ℕ) (cell : Cell) → is_slot slot cell ≡ true → cell ≡ SlotOf slot
is-slot slot (SlotOf other) e = ap (λ (n : ℕ). SlotOf n) (eqb-true other slot e)
is-slot slot (SizeOf file) e = cc
is-slot slot (AttrOf file key) e = cc
is-slot slot (Segment file at len) e = cc

module _ (t : Trace) (q : Pred) (rules : IsTrace t) (order : List ℕ) (v : List Bool) (cs : List CodedCell) (tells : Tells t q v (after_numbers t.events (start_state t) order) cs)
    (slot first : ℕ) (there : slot < length t.slots) (asked : Asked) (keyed : Keyed t q rules order v cs tells asked)
    (reads : (part : Part) → Contains (parts_of asked) part → Contains (readings t q) (slot, part)) where
  abbrev s : State
  s = after_numbers t.events (start_state t) order

  abbrev own : Lit
  own = yes_lit (first + length (candidates t slot))

  abbrev front : List (List Lit)
  front = flat_map (fits_clauses t cs first asked slot) (candidates t slot)

  abbrev back : List (List Lit)
  back = flat_map (as_held_in t slot first own) (slot_cells cs slot)

  candidate-in : (f : ℕ) → may_hold t slot f ≡ true → Contains (candidates t slot) f
  candidate-in f may =
      let low = may-there t slot f rules may in
      Contains-filter (may_hold t slot) _ f (range_contains 0 (file_count t) f (omega arith) (omega arith)) may

  has-parts : (f : ℕ) → may_hold t slot f ≡ true → (part : Part) → Contains (parts_of asked) part → Contains (parts t q f) part
  has-parts f may part h = part-of t q slot f part (reads part h) may

  cell-there : (name : Contains (parts_of asked) Name) → Contains (cells t q) (SlotOf slot)
  cell-there name = slot-cell t q slot Name there (reads Name name)

  chosen-file : (c : CodedCell) → Contains (slot_cells cs slot) c → (j : ℕ) → Contains (choices t c.cell) j → truth v (last_lit c.first j) → (file_in (choice_value t c.cell j) ≡ held_by s slot) × (choice_value t c.cell j ≡ Held (held_by s slot)) × (c.cell ≡ SlotOf slot)
  chosen-file c hc j hj l =
      let is = Contains-from_filter (λ c. is_slot slot c.cell) cs c hc in
      let slot_is = is-slot slot c.cell is.1 in
      let value = chosen t q rules order v cs tells c is.0 j hj l ∙ ap (cell_value s) slot_is in
      (ap file_in value, value, slot_is)

  may-of : (c : CodedCell) → Contains (slot_cells cs slot) c → (j : ℕ) → Contains (choices t c.cell) j → truth v (last_lit c.first j) → (f : ℕ) → file_in (choice_value t c.cell j) ≡ Some f → may_hold t slot f ≡ true
  may-of c hc j hj l f e =
      let (as_file, value, slot_is) = chosen-file c hc j hj l in
      candidate t slot f (named_writer (writers t.events c.cell) j)
      (ap (λ (cell : Cell). value_by t cell (named_writer (writers t.events c.cell) j)) (sym slot_is) ∙ value ∙ ap Held (sym as_file ∙ e))

  fits-of : MakesAllTrue v front → (f : ℕ) → may_hold t slot f ≡ true → is_true v (fits_lit t slot first f) ≡ meets s asked f
  fits-of all f may =
      file-fits t q rules order v cs tells slot first f (may-there t slot f rules may) asked keyed (has-parts f may)
      (All-from_flat_map (MakesTrue v) (fits_clauses t cs first asked slot) (candidates t slot) f all (candidate-in f may))

  pub file-node-true : Contains (parts_of asked) Name → MakesAllTrue v ((file_node t cs asked slot).clauses first) → is_true v own ≡ on_file (held_by s slot) (meets s asked)
  file-node-true name all =
      let (start, hc) = tells.has (SlotOf slot) (cell-there name) in
      let c : CodedCell = record { cell = SlotOf slot; first = start; writers = writers t.events (SlotOf slot) } in
      let told = tells.told c hc in
      let in_slot = Contains-filter (λ c. is_slot slot c.cell) cs c hc (eq-eqb slot slot refl) in
      let l = (told.one told.number told.within).1 refl in
      let hj : Contains (choices t (SlotOf slot)) told.number = range_contains 0 (length (writers t.events (SlotOf slot)) + 1) told.number (omega arith) (omega (arith, told.within)) in
      let clauses = All-from_flat_map (MakesTrue v) (λ j. as_held t slot first own (last_lit start j) (file_in (choice_value t (SlotOf slot) j))) (choices t (SlotOf slot)) told.number
      (All-from_flat_map (MakesTrue v) (as_held_in t slot first own) (slot_cells cs slot) c (All-right (MakesTrue v) front back all) in_slot) hj in
      let (as_file, value, slot_is) = chosen-file c in_slot told.number hj l in
      held-of t v slot first own (last_lit start told.number) (meets s asked) (file_in (choice_value t (SlotOf slot) told.number)) clauses l
      (λ f e. fits-of (All-left (MakesTrue v) front back all) f (may-of c in_slot told.number hj l f e))
      ∙ ap (λ (o : Option ℕ). on_file o (meets s asked)) as_file

  pub file-node-made :
      ((f : ℕ) → Contains (candidates t slot) f → is_true v (fits_lit t slot first f) ≡ meets s asked f)
      → is_true v own ≡ on_file (held_by s slot) (meets s asked) → MakesAllTrue v ((file_node t cs asked slot).clauses first)
  file-node-made fits is =
      All-append (MakesTrue v) front back
      (All-flat_map (MakesTrue v) (fits_clauses t cs first asked slot) (candidates t slot) (λ f hf.
      let kept = Contains-from_filter (may_hold t slot) (range_with_len 0 (file_count t)) f hf in
      fits-made t q rules order v cs tells slot first f (may-there t slot f rules kept.1) asked keyed (has-parts f kept.1) (fits f hf)))
      (All-flat_map (MakesTrue v) (as_held_in t slot first own) (slot_cells cs slot) (λ c hc.
      All-flat_map (MakesTrue v) (λ j. as_held t slot first own (last_lit c.first j) (file_in (choice_value t c.cell j))) (choices t c.cell) (λ j hj.
      held-made t v slot first own (last_lit c.first j) (meets s asked) (file_in (choice_value t c.cell j))
      (λ l. is ∙ ap (λ (o : Option ℕ). on_file o (meets s asked)) (sym (chosen-file c hc j hj l).0))
      (λ f e l. fits f (candidate-in f (may-of c hc j hj l f e))))))
