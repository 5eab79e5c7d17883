use Rattle.std.proofs.Common.{refl}
use Rattle.rup_checker.proofs.laws.open_logs_lack_the_empty_clause.Goals as goal

pub returns : goal.returns
returns c = λ formula log o. (refl, o.made_for, o.follow, o.unclosed)
