use Rattle.std.proofs.Common.{sym, subst}
use Rattle.cdcl_core.specs.Numbers.{AreNumbers}
use Rattle.cdcl_core.proofs.Solver.learned.Goals as goal

pub invariant_of-result : goal.invariant_of-result
invariant_of-result c = subst (λ ns. AreNumbers c.self.inside.engine.store.clauses ns) (sym c.as_slice.ensures) c.self.invariant.learned
