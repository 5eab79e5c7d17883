use Rattle.std.proofs.Common.{[], ◌++◌, sym, subst}
use Rattle.std.specs.List.{Contains}
use Rattle.clause_store.specs.Propagation.{Follows, negations}
use Rattle.clause_store.proofs.GeneralLists.{Contains-nil}
use Rattle.cdcl_core.specs.Answering.{Solving}
use Rattle.cdcl_core.proofs.Numbering.{follows-both}
use Rattle.cdcl_core.proofs.Solver.solve.Goals as goal

pub returns-then-self-clause-verdict : goal.returns-then-self-clause-verdict
returns-then-self-clause-verdict g c =
    let e = c.self.inside.engine in
    let empty = subst (λ (s : Solving). Follows (s.clauses ++ s.learned) []) c.self.view_is (follows-both c.self.inside.engine.learned c.self.inside.engine.store.clauses [] (c.self.invariant.refuted c.if-self.true)) in (
      λ a h. absurd (Contains-nil a (subst (λ xs. Contains xs a) c.new.ensures h)),
      subst (λ xs. Follows (c.args.self.now.clauses ++ c.args.self.now.learned) (negations xs)) (sym c.new.ensures) empty,
    )
