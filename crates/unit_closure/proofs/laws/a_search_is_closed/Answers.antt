use Rattle.unit_closure.proofs.GeneralSearch.{search-closed}
use Rattle.unit_closure.proofs.laws.a_search_is_closed.Goals as goal

pub returns-clause-closed : goal.returns-clause-closed
returns-clause-closed c = λ clauses list t s seen. (search-closed clauses list t s seen).0

pub returns-clause-no_conflict : goal.returns-clause-no_conflict
returns-clause-no_conflict c = λ clauses list t s seen. (search-closed clauses list t s seen).1
