use Rattle.std.proofs.Common.{ℕ, Option, ◌∙◌, ap, ap₂}
use Rattle.fer_events.specs.Truth.{text_number}
use Rattle.predicate_coding.specs.declared.asked.Asked.TheVariants.{Attribute}
use Rattle.predicate_coding.specs.AtomNodes.{path_node}
use Rattle.predicate_coding.specs.Growing.{with_node}
use Rattle.predicate_coding.proofs.nodes.code_attr.Goals as goal

pub returns : goal.returns
returns c =
    c.in_ok-code_path.ensures
    ∙ ap₂ (λ (key slot : Option ℕ). with_node c.args.store.now (path_node c.args.events.now c.args.cells.now (Attribute key c.args.value) slot))
    (c.key_of.ensures ∙ ap (text_number c.args.events.now.keys) c.as_slice.ensures) c.slot_of-slot.ensures
