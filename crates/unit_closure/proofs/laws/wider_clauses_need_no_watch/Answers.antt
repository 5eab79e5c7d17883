use Rattle.unit_closure.proofs.Adding.{search-wider}
use Rattle.unit_closure.proofs.laws.wider_clauses_need_no_watch.Goals as goal

pub returns : goal.returns
returns c = λ clauses wider clause list t id s at sub. search-wider clauses wider clause list t id s at sub
