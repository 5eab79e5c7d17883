use Rattle.std.proofs.Common.{◌≡◌, List, None, sym, ◌∙◌, ap}
use Rattle.fer_events.specs.declared.tables.SlotName.{SlotName}
use Rattle.fer_events.specs.Paths.{entry_number}
use Rattle.name_tables.proofs.SlotLaws.{found_slot, lost_slot, turned_name}
use Rattle.name_tables.proofs.slot_table.SlotTable.number_of.Goals as goal

pub returns-in_err-name-clause-number : goal.returns-in_err-name-clause-number
returns-in_err-name-clause-number c =
    c.from_residual.ensures
    ∙ sym (lost_slot c.self.inside.names c.self.inside.slots.keys c.args.dir c.args.name.now c.self.invariant (sym (turned_name c.self.inside.names c.args.name.now) ∙ sym c.in_err-name.ensures.number))
    ∙ ap (λ (slots : List SlotName). entry_number slots (record { dir = c.args.dir; name = c.args.name.now })) c.self.view_is

pub returns-clause-number : goal.returns-clause-number
returns-clause-number c =
    c.get_index_of.ensures.index
    ∙ found_slot c.self.inside.names c.self.inside.slots.keys c.args.dir c.args.name.now c.in_ok-name.name c.self.invariant (sym (turned_name c.self.inside.names c.args.name.now) ∙ sym c.in_ok-name.ensures.number)
    ∙ ap (λ (slots : List SlotName). entry_number slots (record { dir = c.args.dir; name = c.args.name.now })) c.self.view_is
