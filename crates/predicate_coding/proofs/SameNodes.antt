-- The clauses of two paths that hold one file.
use Rattle.std.proofs.Common.{◌≡◌, inl, inr, ℕ, ◌+◌, ◌<◌, Bool, true, false, List, [], ◌∷◌, length, map, Option, Some, None, option_and_then, Contains, refl, sym, ◌∙◌, ap, subst, arith}
use Rattle.std.specs.List.{flat_map}
use Rattle.std.proofs.lemmas.Bool.{cases_eq, eq-eqb}
use Rattle.std.proofs.lemmas.List.Elements.{All-map, All-contains}
use Rattle.litmus_syntax.specs.declared.pred.Pred.{Pred}
use Rattle.clause_store.specs.declared.Lit.{Lit}
use Rattle.clause_store.specs.Truth.{is_true, MakesTrue, MakesAllTrue}
use Rattle.clause_store.proofs.GeneralLists.{Contains-map, Contains-filter, Contains-from_filter, Contains-head_is}
use Rattle.fer_events.specs.States.{State, after_numbers, start_state}
use Rattle.fer_events.specs.Tables.{Trace, IsTrace}
use Rattle.fer_events.specs.Truth.{on_file, item_at, same_file}
use Rattle.order_coding.proofs.GeneralLists.{All-from_contains, All-flat_map, All-from_flat_map, eq-no, range_contains}
use Rattle.value_coding.specs.declared.cell.Cell.TheVariants.{SlotOf}
use Rattle.value_coding.specs.Cells.{held_by, cell_value}
use Rattle.value_coding.specs.declared.reading.Part.{Part}
use Rattle.value_coding.specs.declared.reading.Part.TheVariants.{Name}
use Rattle.value_coding.specs.Readings.{at_slot, readings}
use Rattle.value_coding.specs.QuestionCells.{cells}
use Rattle.value_coding.specs.Writers.{writers}
use Rattle.value_coding.specs.LastClauses.{last_lit}
use Rattle.value_coding.proofs.GeneralCells.{slot-cell}
use Rattle.order_coding.proofs.GeneralClauses.{truth, of-three, three}
use Rattle.predicate_coding.specs.declared.asked.Asked.TheVariants.{Presence}
use Rattle.value_coding.specs.declared.cell.CodedCell.{CodedCell}
use Rattle.predicate_coding.specs.CellChoices.{choices, choice_value, yes_lit, is_slot, slot_cells, file_in}
use Rattle.predicate_coding.specs.AtomNodes.{as_same, file_node, never, same_choice, same_choices, same_slots, same_node}
use Rattle.predicate_coding.proofs.Told.{Knows}
use Rattle.predicate_coding.proofs.Fits.{negated-yes, negated-no, chosen}
use Rattle.predicate_coding.proofs.HeldFiles.{is-slot}
use Rattle.predicate_coding.proofs.PathNodes.{SlotThere, file_node-says, file_node-made}
use Rattle.predicate_coding.proofs.Made.{Says, IsMade, never-says, never-made}

as_same-says : (v : List Bool) (own : Lit) (b : Bool) → truth v (as_same own b) → is_true v own ≡ b
as_same-says v own true h = h
as_same-says v own false h = negated-no v own h

as_same-made : (v : List Bool) (own : Lit) (b : Bool) → is_true v own ≡ b → truth v (as_same own b)
as_same-made v own true e = e
as_same-made v own false e = negated-yes v own e

-- a slot holds the same file as itself where it holds one
same-itself : (o : Option ℕ) → same_file o o ≡ on_file o (λ f. true)
same-itself None = refl
same-itself (Some f) = eq-eqb f f refl

same-none : (o : Option ℕ) → same_file o None ≡ false
same-none None = refl
same-none (Some f) = refl

zero-is : (first : ℕ) → first + 0 ≡ first
zero-is first = omega arith

module _ (t : Trace) (q : Pred) (rules : IsTrace t) (order : List ℕ) (cs : List CodedCell) where
  abbrev s : State
  s = after_numbers t.events (start_state t) order

  -- the slot's cell, its number and what it holds
  slot-told : (v : List Bool) → Knows t q order cs v → (slot : ℕ) → Contains (cells t q) (SlotOf slot)
      → (c : CodedCell) × Contains (slot_cells cs slot) c × (j : ℕ) × Contains (choices t c.cell) j × truth v (last_lit c.first j) × (file_in (choice_value t c.cell j) ≡ held_by s slot)
  slot-told v knows slot there =
      let (start, hc) = knows.tells.has (SlotOf slot) there in
      let c : CodedCell = record { cell = SlotOf slot; first = start; writers = writers t.events (SlotOf slot) } in
      let told = knows.tells.told (record { cell = SlotOf slot; first = start; writers = writers t.events (SlotOf slot) }) hc in (
        record { cell = SlotOf slot; first = start; writers = writers t.events (SlotOf slot) },
        Contains-filter (λ c. is_slot slot c.cell) cs (record { cell = SlotOf slot; first = start; writers = writers t.events (SlotOf slot) }) hc (eq-eqb slot slot refl),
        told.number,
        range_contains 0 (length (writers t.events (SlotOf slot)) + 1) told.number (omega arith) (omega (arith, told.within)),
        (told.one told.number told.within).1 refl,
        ap file_in told.holds,
      )

  slot-chosen : (v : List Bool) → Knows t q order cs v → (slot : ℕ) (c : CodedCell) → Contains (slot_cells cs slot) c → (j : ℕ) → Contains (choices t c.cell) j → truth v (last_lit c.first j)
      → file_in (choice_value t c.cell j) ≡ held_by s slot
  slot-chosen v knows slot c hc j hj l =
      let is = Contains-from_filter (λ c. is_slot slot c.cell) cs c hc in
      ap file_in (chosen t q rules order v cs knows.tells c is.0 j hj l ∙ ap (cell_value s) (is-slot slot c.cell is.1))

  module _ (left right : ℕ) where
    abbrev clauses_of : Lit → List (List Lit)
    clauses_of own = flat_map (λ p. flat_map (same_choices t own p) (slot_cells cs right)) (slot_cells cs left)

    apart-says : (v : List Bool) → Knows t q order cs v → Contains (cells t q) (SlotOf left) → Contains (cells t q) (SlotOf right)
        → (own : Lit) → MakesAllTrue v (clauses_of own) → is_true v own ≡ same_file (held_by s left) (held_by s right)
    apart-says v knows has_left has_right own all =
        let (p, hp, j, hj, lj, file_p) = slot-told v knows left has_left in
        let (r, hr, k, hk, lk, file_r) = slot-told v knows right has_right in
        let row = All-from_flat_map (MakesTrue v) (λ p. flat_map (same_choices t own p) (slot_cells cs right)) (slot_cells cs left) p all hp in
        let column = All-from_flat_map (MakesTrue v) (same_choices t own p) (slot_cells cs right) r row hr in
        let of_j = All-from_flat_map (MakesTrue v) (λ j. map (same_choice t own p r j) (choices t r.cell)) (choices t p.cell) j column hj in
        let clause = All-contains (MakesTrue v) (map (same_choice t own p r j) (choices t r.cell)) (same_choice t own p r j k) of_j (Contains-map (same_choice t own p r j) (choices t r.cell) k hk) in
        as_same-says v own (same_file (file_in (choice_value t p.cell j)) (file_in (choice_value t r.cell k)))
        (of-three v (last_lit p.first j) (last_lit r.first k) (as_same own (same_file (file_in (choice_value t p.cell j)) (file_in (choice_value t r.cell k)))) clause lj lk)
        ∙ ap (λ (o : Option ℕ). same_file o (file_in (choice_value t r.cell k))) file_p
        ∙ ap (same_file (held_by s left)) file_r

    apart-made : (v : List Bool) → Knows t q order cs v → (own : Lit) → is_true v own ≡ same_file (held_by s left) (held_by s right) → MakesAllTrue v (clauses_of own)
    apart-made v knows own is =
        All-flat_map (MakesTrue v) (λ p. flat_map (same_choices t own p) (slot_cells cs right)) (slot_cells cs left) (λ p hp.
        All-flat_map (MakesTrue v) (same_choices t own p) (slot_cells cs right) (λ r hr.
        All-flat_map (MakesTrue v) (λ j. map (same_choice t own p r j) (choices t r.cell)) (choices t p.cell) (λ j hj.
        All-map (MakesTrue v) (same_choice t own p r j) (choices t r.cell) (All-from_contains (λ k. MakesTrue v (same_choice t own p r j k)) (choices t r.cell) (λ k hk.
        three v (last_lit p.first j) (last_lit r.first k) (as_same own (same_file (file_in (choice_value t p.cell j)) (file_in (choice_value t r.cell k)))) (λ lj lk.
        as_same-made v own (same_file (file_in (choice_value t p.cell j)) (file_in (choice_value t r.cell k)))
        (is ∙ ap (λ (o : Option ℕ). same_file o (held_by s right)) (sym (slot-chosen v knows left p hp j hj lj))
        ∙ ap (same_file (file_in (choice_value t p.cell j))) (sym (slot-chosen v knows right r hr k hk lk)))))))))

  abbrev Reads : Option ℕ → Type 0
  Reads o = (r : ℕ × Part) → Contains (at_slot o (Name ∷ [])) r → Contains (readings t q) r

  slot-there : (slot : ℕ) → slot < length t.slots → Reads (Some slot) → Contains (cells t q) (SlotOf slot)
  slot-there slot low reads = slot-cell t q slot Name low (reads (slot, Name) (Contains-map (λ (part : Part). (slot, part)) (Name ∷ []) Name (Contains-head_is Name [] Name refl)))

  same_slots-says :
      (v : List Bool) → Knows t q order cs v → (left right : ℕ) → left < length t.slots → right < length t.slots → Reads (Some left) → Reads (Some right)
      → Says v (same_slots t cs left right) (same_file (held_by s left) (held_by s right))
  same_slots-says v knows left right low_left low_right reads_left reads_right = elim (cases_eq left right) [
    | inl same ↦
        rw (eq-eqb left right same)
        (λ first all. file_node-says t q rules order cs v knows left Presence low_left tt reads_left first all ∙ sym (same-itself (held_by s left)) ∙ ap (λ (k : ℕ). same_file (held_by s left) (held_by s k)) same)
    | inr ne ↦
        rw (eq-no left right ne)
        (λ first all. ap (λ (k : ℕ). is_true v (yes_lit k)) (zero-is first) ∙ apart-says left right v knows (slot-there left low_left reads_left) (slot-there right low_right reads_right) (yes_lit first) all)
  ]

  pub same_node-says :
      (v : List Bool) → Knows t q order cs v → (left right : Option ℕ) → SlotThere t left → SlotThere t right → Reads left → Reads right
      → Says v (same_node t cs left right) (same_file (option_and_then (λ held. held) (item_at s.slots left)) (option_and_then (λ held. held) (item_at s.slots right)))
  same_node-says v knows (Some left) (Some right) low_left low_right reads_left reads_right = same_slots-says v knows left right low_left low_right reads_left reads_right
  same_node-says v knows None right low_left low_right reads_left reads_right = never-says v
  same_node-says v knows (Some left) None low_left low_right reads_left reads_right = λ first all. never-says v first all ∙ sym (same-none (held_by s left))

  same_slots-made :
      (left right : ℕ) → left < length t.slots → right < length t.slots → Reads (Some left) → Reads (Some right)
      → IsMade (Knows t q order cs) (same_slots t cs left right) (same_file (held_by s left) (held_by s right))
  same_slots-made left right low_left low_right reads_left reads_right = elim (cases_eq left right) [
    | inl same ↦
        let is : on_file (held_by s left) (λ f. true) ≡ same_file (held_by s left) (held_by s right) =
        sym (same-itself (held_by s left)) ∙ ap (λ (k : ℕ). same_file (held_by s left) (held_by s k)) same in
        rw (eq-eqb left right same)
        (subst (IsMade (Knows t q order cs) (file_node t cs Presence left)) is (file_node-made t q rules order cs left Presence low_left tt reads_left))
    | inr ne ↦
        rw (eq-no left right ne)
        (record {
          row = [];
          long = refl;
          makes = λ v knows first reads own. apart-made left right v knows (yes_lit first) (ap (λ (k : ℕ). is_true v (yes_lit k)) (sym (zero-is first)) ∙ own);
        })
  ]

  pub same_node-made :
      (left right : Option ℕ) → SlotThere t left → SlotThere t right → Reads left → Reads right
      → IsMade (Knows t q order cs) (same_node t cs left right) (same_file (option_and_then (λ held. held) (item_at s.slots left)) (option_and_then (λ held. held) (item_at s.slots right)))
  same_node-made (Some left) (Some right) low_left low_right reads_left reads_right = same_slots-made left right low_left low_right reads_left reads_right
  same_node-made None right low_left low_right reads_left reads_right = never-made (Knows t q order cs)
  same_node-made (Some left) None low_left low_right reads_left reads_right = subst (IsMade (Knows t q order cs) never) (sym (same-none (held_by s left))) (never-made (Knows t q order cs))
