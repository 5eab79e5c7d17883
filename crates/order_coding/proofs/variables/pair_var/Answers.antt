use Rattle.order_coding.proofs.GeneralNumbering.{pair_var_within}
use Rattle.order_coding.proofs.variables.pair_var.Goals as goal

pub returns-clause-there : goal.returns-clause-there
returns-clause-there c = pair_var_within c.args.n c.args.a c.args.b c.requires.first c.requires.ascending c.requires.second
