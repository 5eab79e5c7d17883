use Rattle.trail_core.proofs.GeneralTrails.{once-same, not-both, free-not-holds, free-not-fails, one-of-three}
use Rattle.trail_core.proofs.laws.each_variable_stands_once.Goals as goal

pub returns-clause-once : goal.returns-clause-once
returns-clause-once c = once-same

pub returns-clause-not_both : goal.returns-clause-not_both
returns-clause-not_both c = not-both

pub returns-clause-neither : goal.returns-clause-neither
returns-clause-neither c entries l free = (free-not-holds entries l free, free-not-fails entries l free)

pub returns-clause-one_of_three : goal.returns-clause-one_of_three
returns-clause-one_of_three c = one-of-three
