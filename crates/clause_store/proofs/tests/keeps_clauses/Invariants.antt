use Rattle.std.proofs.Common.{◌≡◌}
use Rattle.clause_store.proofs.tests.keeps_clauses.Given as goal

abbrev pub invariant-loop : goal.invariant-loop
invariant-loop g l = l.store.vars ≡ 2
