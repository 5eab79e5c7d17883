use Rattle.std.proofs.Common.{rules, ◌≡◌, ◌∙◌, Some, List, ℕ, ◌∷◌, slice_get, sym, ap}
use Rattle.std.specs.Char.{encode_utf8}
use Rattle.command_line.proofs.Places.{begins}
use Rattle.command_line.proofs.values.model_of.Goals as goal

pub returns-in_ok-name-in-None : goal.returns-in_ok-name-in-None
unfolding encode_utf8
returns-in_ok-name-in-None c =
    let copied : c.in_ok-name-in-None.name ≡ c.args.word.now = search rules in
    ((λ first. let found = begins c.args.word.now (ap (λ w. slice_get w 0) (sym copied) ∙ first) in c.in-None.ensures.cases found.0 found.1), sym copied)
