use Rattle.std.proofs.Common.{◌≡◌, ℕ, List, [], ◌∷◌, ◌++◌, All, map, Option, None, Some, nat_eq, position, is_some, Result, Ok, Err, OnErr, sym, ◌∙◌, ap, subst}
use Rattle.std.specs.Prelude.{if◌then◌else◌}
use Rattle.std.specs.Cmp.Lexicographic.{pointwise}
use Rattle.fer_events.specs.declared.tables.SlotName.{SlotName}
use Rattle.fer_events.specs.Paths.{entry_number}
use Rattle.name_tables.specs.Parts.{slot_named, IsOwn}
use Rattle.name_tables.proofs.SlotLaws.{with_name, with_name_is, turned_name, with_slot, still_own, still_named, has_number, slots_own, noted_slot}
use Rattle.name_tables.proofs.slot_table.SlotTable.note.Goals as goal

on_err : {T E : Type 0} (r : Result T E) (P : Type 0) → P → OnErr r P
on_err (Ok x) P holds = tt
on_err (Err e) P holds = holds

-- the names behind a note
grown_names : (names : List (List ℕ)) (copy name : List ℕ) (new : List (List ℕ)) → new ≡ (if is_some (position (λ e. pointwise nat_eq e copy) names) then names else names ++ copy ∷ []) → copy ≡ name → new ≡ with_name names name
grown_names names copy name new noted same = noted ∙ with_name_is names copy ∙ ap (with_name names) same

-- the slots fit names that are the same
own_in : (names other : List (List ℕ)) (slots : List (ℕ × ℕ)) → other ≡ names → All (λ slot. IsOwn names slot.1) slots → All (λ slot. IsOwn other slot.1) slots
own_in names other slots same own = subst (λ (n : List (List ℕ)). All (λ slot. IsOwn n slot.1) slots) (sym same) own

pub invariant_of-self : goal.invariant_of-self
invariant_of-self c = own_in c.self.inside.names c.note.new.self c.self.inside.slots.keys c.in_err-note.ensures.err c.self.invariant

pub invariant_of-self-in_default : goal.invariant_of-self-in_default
invariant_of-self-in_default c =
    let grown : c.note.new.self ≡ with_name c.self.inside.names c.args.name.now = grown_names c.self.inside.names c.in_ok-copy.copy.items c.args.name.now c.note.new.self c.in_ok-note.ensures.ok c.in_ok-copy.ensures.items in
    own_in (with_name c.self.inside.names c.args.name.now) c.note.new.self c.self.inside.slots.keys grown (still_own c.self.inside.names c.args.name.now c.self.inside.slots.keys c.self.invariant)

pub returns-in_default-clause-ok : goal.returns-in_default-clause-ok
returns-in_default-clause-ok c =
    let grown : c.note.new.self ≡ with_name c.self.inside.names c.args.name.now = grown_names c.self.inside.names c.in_ok-copy.copy.items c.args.name.now c.note.new.self c.in_ok-note.ensures.ok c.in_ok-copy.ensures.items in
    let lost : position (λ e. pointwise nat_eq c.args.name.now e) (with_name c.self.inside.names c.args.name.now) ≡ None =
    ap (position (λ e. pointwise nat_eq c.args.name.now e)) (sym grown) ∙ sym (c.in_default.ensures.number ∙ turned_name c.note.new.self c.args.name.now) in
    absurd (has_number c.self.inside.names c.args.name.now lost)

pub invariant_of-self-in_err-insert : goal.invariant_of-self-in_err-insert
invariant_of-self-in_err-insert c =
    let names = c.self.inside.names in
    let grown : c.note.new.self ≡ with_name names c.args.name.now = grown_names names c.in_ok-copy.copy.items c.args.name.now c.note.new.self c.in_ok-note.ensures.ok c.in_ok-copy.ensures.items in
    let own = own_in (with_name names c.args.name.now) c.note.new.self c.self.inside.slots.keys grown (still_own names c.args.name.now c.self.inside.slots.keys c.self.invariant) in
    subst (λ (slots : List (ℕ × ℕ)). All (λ slot. IsOwn c.note.new.self slot.1) slots) (sym c.in_err-insert.ensures.err) own

pub returns-in_err-insert-clause-err : goal.returns-in_err-insert-clause-err
returns-in_err-insert-clause-err c =
    let names = c.self.inside.names in
    let slots = c.self.inside.slots.keys in
    let grown : c.note.new.self ≡ with_name names c.args.name.now = grown_names names c.in_ok-copy.copy.items c.args.name.now c.note.new.self c.in_ok-note.ensures.ok c.in_ok-copy.ensures.items in
    let same : map (slot_named c.note.new.self) c.insert.new.self.keys ≡ c.args.self.now =
    ap (map (slot_named c.note.new.self)) c.in_err-insert.ensures.err
    ∙ ap (λ (n : List (List ℕ)). map (slot_named n) slots) grown
    ∙ still_named names c.args.name.now slots c.self.invariant
    ∙ c.self.view_is in
    on_err c.from_residual-in_err-insert.result (map (slot_named c.note.new.self) c.insert.new.self.keys ≡ c.args.self.now) same

pub invariant_of-self-2 : goal.invariant_of-self-2
invariant_of-self-2 c =
    let names = c.self.inside.names in
    let slots = c.self.inside.slots.keys in
    let grown : c.note.new.self ≡ with_name names c.args.name.now = grown_names names c.in_ok-copy.copy.items c.args.name.now c.note.new.self c.in_ok-note.ensures.ok c.in_ok-copy.ensures.items in
    let own = own_in (with_name names c.args.name.now) c.note.new.self slots grown (still_own names c.args.name.now slots c.self.invariant) in
    subst (λ (s : List (ℕ × ℕ)). All (λ slot. IsOwn c.note.new.self slot.1) s) (sym c.in_ok-insert.ensures.keys)
    (slots_own c.note.new.self slots c.args.dir c.args.name.now c.in-Some.number own (sym (c.in-Some.ensures.number ∙ turned_name c.note.new.self c.args.name.now)))

pub returns-clause-ok : goal.returns-clause-ok
returns-clause-ok c =
    let names = c.self.inside.names in
    let slots = c.self.inside.slots.keys in
    let entry : SlotName = record { dir = c.args.dir; name = c.args.name.now } in
    let grown : c.note.new.self ≡ with_name names c.args.name.now = grown_names names c.in_ok-copy.copy.items c.args.name.now c.note.new.self c.in_ok-note.ensures.ok c.in_ok-copy.ensures.items in
    let own = own_in (with_name names c.args.name.now) c.note.new.self slots grown (still_own names c.args.name.now slots c.self.invariant) in
    let still : map (slot_named c.note.new.self) slots ≡ c.args.self.now =
    ap (λ (n : List (List ℕ)). map (slot_named n) slots) grown ∙ still_named names c.args.name.now slots c.self.invariant ∙ c.self.view_is in
    ap (map (slot_named c.note.new.self)) c.in_ok-insert.ensures.keys
    ∙ noted_slot c.note.new.self slots c.args.dir c.args.name.now c.in-Some.number own (sym (c.in-Some.ensures.number ∙ turned_name c.note.new.self c.args.name.now))
    ∙ ap (λ (old : List SlotName). if is_some (entry_number old entry) then old else old ++ entry ∷ []) still
