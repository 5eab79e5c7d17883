use Rattle.std.proofs.Common.{◌≡◌, ◌+◌, length, ◌∙◌, ap, subst, arith}
use Rattle.cdcl_core.specs.Answering.{Solving}
use Rattle.question_series.specs.Series.{IsPartUnder}
use Rattle.question_series.proofs.Told.{part-under}
use Rattle.question_series.proofs.series.Series.part.Goals as goal

pub returns : goal.returns
returns c = λ pred want about.
    let a = c.args in
    let inside = c.self.inside in
    let clauses = ap (λ (s : Solving). s.clauses) c.self.view_is ∙ about.clauses in
    let vars = ap (λ (s : Solving). s.vars) c.self.view_is ∙ about.vars in
    let count : c.in-Some.clauses ≡ length inside.solver.clauses + length a.pairs.now.pairs =
    omega (arith, c.in-Some.ensures.1, c.self.invariant.clauses, c.count_pairs.ensures) in
    subst (λ (s : Solving). IsPartUnder s a.events.now a.pairs.now.pairs pred want a.closed c.in_ok-part.part) c.self.view_is
    (part-under a.events.now a.pairs.now.pairs pred want inside.solver clauses a.closed inside.vars c.in-Some.clauses c.in_ok-part.part vars
    c.self.invariant.vars count c.self.invariant.learned.follow c.in_ok-part.ensures)
