use Rattle.std.proofs.Common.{◌≡◌, ◌∙◌, sym}
use Rattle.command_line.proofs.Places.{no_choice, one_choice}
use Rattle.command_line.proofs.values.branch_of.Goals as goal

pub returns-in-None : goal.returns-in-None
returns-in-None c = no_choice c.args.choices.now c.args.word c.in-Some.word c.in-Some.is (sym c.place_of.ensures ∙ c.in-None.is)

pub returns-in-Some-place_of : goal.returns-in-Some-place_of
returns-in-Some-place_of c = one_choice c.args.choices.now c.args.word c.in-Some.word c.in-Some-place_of.place c.in-Some.is (sym c.place_of.ensures ∙ c.in-Some-place_of.is)
