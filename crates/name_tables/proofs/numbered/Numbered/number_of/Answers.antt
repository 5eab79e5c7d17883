use Rattle.std.proofs.Common.{◌≡◌, position, ◌∙◌, ap}
use Rattle.std.specs.Cmp.Lexicographic.{pointwise}
use Rattle.name_tables.proofs.Places.{position_entries}
use Rattle.name_tables.proofs.numbered.Numbered.number_of.Goals as goal

pub returns-clause-number : goal.returns-clause-number
returns-clause-number g c =
    c.get_index_of.ensures.index
    ∙ position_entries c.self.inside.entries.keys (λ e. e.items) g.T.PartialEq.eq g.met.T.PartialEq.laws c.args.entry.now
    ∙ ap (position (λ e. pointwise g.T.PartialEq.eq e c.args.entry.now)) c.self.view_is
