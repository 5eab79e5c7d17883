use Rattle.std.proofs.Common.{ℕ, ◌+◌, ◌∙◌, ap}
use Rattle.predicate_coding.proofs.CodeSlots.{fits_var_is}
use Rattle.predicate_coding.proofs.fitting.fits_of.Goals as goal

pub returns : goal.returns
returns c =
    c.lit.ensures
    ∙ fits_var_is c.args.events.now c.args.slot c.args.first c.args.file (c.args.first + c.count_below.result) c.args.files.now c.requires.files c.requires.there
    (ap (λ (n : ℕ). c.args.first + n) c.count_below.ensures.count)
