use Rattle.std.proofs.Common.{sym, ◌∙◌, ap}
use Rattle.fer_events.specs.States.{value_set}
use Rattle.value_coding.proofs.StartValues.{start-attr}
use Rattle.value_coding.proofs.values.start_attr.Goals as goal

pub returns : goal.returns
returns c =
    c.value_set.ensures
    ∙ ap (λ attrs. value_set attrs c.args.file c.args.key) (c.attrs.ensures ∙ ap (λ start. start.attrs) c.start.ensures)
    ∙ sym (start-attr c.args.events.now c.args.file c.args.key c.requires.0 c.requires.1)
