use Rattle.std.proofs.Common.{◌≡◌, ℕ, ◌<◌, List, [], length, map, get_or, Option, Some, slice_get, option_map, sym, ◌∙◌, ap, subst, arith}
use Rattle.std.proofs.lemmas.List.{length-map}
use Rattle.std.proofs.lemmas.Option.{slice_get-map, slice_get-get_or, get_or_from_slice_get}
use Rattle.fer_events.specs.declared.tables.SlotName.{SlotName}
use Rattle.name_tables.specs.Parts.{slot_named}
use Rattle.name_tables.proofs.SlotLaws.{own_there}
use Rattle.name_tables.proofs.slot_table.SlotTable.slot.Goals as goal

pub entry-requires : goal.entry-requires
entry-requires c =
    let slots = c.self.inside.slots.keys in
    let below : c.args.number < length slots = let there = c.requires in let same = ap length (sym c.self.view_is) ∙ length-map slots (slot_named c.self.inside.names) in omega (arith, there, same) in
    let same : get_or c.as_slice.result.now c.args.number (0, 0) ≡ get_or slots c.args.number (0, 0) = ap (λ (s : List (ℕ × ℕ)). get_or s c.args.number (0, 0)) c.as_slice.ensures.keys in
    subst (λ (slot : ℕ × ℕ). slot.1 < length c.self.inside.names) (sym same) (own_there c.self.inside.names (get_or slots c.args.number (0, 0)).1 (c.self.invariant c.args.number (0, 0) below))

pub returns : goal.returns
returns c =
    let slots = c.self.inside.slots.keys in
    let names = c.self.inside.names in
    let below : c.args.number < length slots = let there = c.requires in let same = ap length (sym c.self.view_is) ∙ length-map slots (slot_named names) in omega (arith, there, same) in
    let read : List (ℕ × ℕ) = c.as_slice.result.now in
    let slot : ℕ × ℕ = get_or read c.args.number (0, 0) in
    let same : get_or slots c.args.number (0, 0) ≡ slot = ap (λ (s : List (ℕ × ℕ)). get_or s c.args.number (0, 0)) (sym c.as_slice.ensures.keys) in
    let name : get_or names slot.1 [] ≡ c.entry.result.now = get_or_from_slice_get names slot.1 c.entry.result.now [] c.entry.ensures in
    ap (λ (view : List SlotName). slice_get view c.args.number) (sym c.self.view_is)
    ∙ slice_get-map (slot_named names) slots c.args.number
    ∙ ap (option_map (slot_named names)) (slice_get-get_or slots c.args.number (0, 0) below)
    ∙ ap (λ (s : ℕ × ℕ). Some (slot_named names s)) same
    ∙ ap (λ (x : List ℕ). Some (record { dir = slot.0; name = x })) name
