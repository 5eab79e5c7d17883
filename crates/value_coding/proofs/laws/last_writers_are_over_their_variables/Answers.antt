use Rattle.value_coding.proofs.LastNamed.{formula-named}
use Rattle.value_coding.proofs.laws.last_writers_are_over_their_variables.Goals as goal

pub returns : goal.returns
returns c = λ events kept cells few forward. formula-named events kept cells few (c.clauses_are_over_their_variables.ensures events kept forward)
