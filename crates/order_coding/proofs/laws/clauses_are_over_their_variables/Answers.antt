use Rattle.order_coding.proofs.Named.{clauses-named}
use Rattle.order_coding.proofs.laws.clauses_are_over_their_variables.Goals as goal

pub returns : goal.returns
returns c = clauses-named
