use Rattle.clause_store.specs.Clauses.{negated}
use Rattle.conflict_cut.proofs.laws.a_unit_clause_is_new.Goals as goal

pub returns : goal.returns
returns c = λ clauses entries clause set holds free closed safe unit.
    c.what_makes_a_clause_new.ensures.by_closed_set clauses clause unit.0 set unit.1 (free unit.0 unit.2) (λ m h ne. holds (negated m) (unit.3 m h ne)) closed safe
