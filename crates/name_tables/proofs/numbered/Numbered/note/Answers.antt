use Rattle.std.proofs.Common.{◌≡◌, List, map, ◌++◌, ◌∷◌, [], position, is_some, ◌∙◌, ap}
use Rattle.std.specs.Prelude.{if◌then◌else◌}
use Rattle.std.specs.Cmp.Lexicographic.{pointwise}
use Rattle.name_tables.proofs.Places.{noted_entries}
use Rattle.name_tables.proofs.numbered.Numbered.note.Goals as goal

pub returns-clause-ok : goal.returns-clause-ok
returns-clause-ok g c =
    ap (map (λ e. e.items)) c.in_ok-insert.ensures.keys
    ∙ noted_entries c.self.inside.entries.keys (λ e. e.items) g.T.PartialEq.eq g.met.T.PartialEq.laws c.args.entry
    ∙ ap (λ old. if is_some (position (λ e. pointwise g.T.PartialEq.eq e c.args.entry.items) old) then old else old ++ c.args.entry.items ∷ []) c.self.view_is
