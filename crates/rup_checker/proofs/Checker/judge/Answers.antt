use Rattle.std.proofs.Common.{subst}
use Rattle.clause_store.specs.Clauses.{Formula}
use Rattle.clause_store.specs.Propagation.{Follows}
use Rattle.rup_checker.proofs.GeneralTrials.{all-follow}
use Rattle.rup_checker.proofs.Checker.judge.Goals as goal

pub returns-then-self-clause-exact : goal.returns-then-self-clause-exact
returns-then-self-clause-exact c =
    subst (λ (f : Formula). Follows f.clauses c.args.lits.now) c.self.view_is (all-follow c.self.inside.store.clauses c.args.lits.now (c.self.invariant.refuted c.if-self.true))
