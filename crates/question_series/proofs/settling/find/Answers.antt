use Rattle.std.proofs.Common.{◌≡◌, ◌+◌, ◌-◌, ◌^◌, min, length, ◌∙◌, ap, subst}
use Rattle.clause_store.specs.Clauses.{Formula}
use Rattle.cdcl_core.specs.Answering.{IsVerdict}
use Rattle.question_series.proofs.Finding.{still-refuting, found-refuted, found-spent}
use Rattle.question_series.proofs.settling.find.Goals as goal

pub returns-in_err-values-clause-refuting : goal.returns-in_err-values-clause-refuting
returns-in_err-values-clause-refuting g c =
    let e = c.in_err-values.ensures in
    still-refuting c.args.solver.now c.solve.new.self e.clauses e.learned c.args.refuting.now c.requires.refuting

pub returns-in-Satisfied-clause-refuting : goal.returns-in-Satisfied-clause-refuting
returns-in-Satisfied-clause-refuting g c =
    let e = c.in_ok-values.ensures in
    still-refuting c.args.solver.now c.solve.new.self e.clauses e.learned c.args.refuting.now c.requires.refuting

pub returns-in-Refuted-clause-found : goal.returns-in-Refuted-clause-found
returns-in-Refuted-clause-found g c =
    let new = c.solve.new.self in
    found-refuted new c.args.lits.now c.most_learned-most.result c.in-Refuted.part
    (subst (IsVerdict new c.args.lits.now c.most_learned-most.result) c.in-Refuted.is c.in_ok-values.ensures.verdict)

pub returns-in-Spent-clause-refuting : goal.returns-in-Spent-clause-refuting
returns-in-Spent-clause-refuting g c =
    let e = c.in_ok-values.ensures in
    still-refuting c.args.solver.now c.solve.new.self e.clauses e.learned c.args.refuting.now c.requires.refuting

pub returns-in-Spent-clause-found : goal.returns-in-Spent-clause-found
returns-in-Spent-clause-found g c =
    let new = c.solve.new.self in
    let count : c.len.result ≡ length c.args.solver.now.learned = c.len.ensures ∙ ap (λ (f : Formula). length f.clauses) c.learned.ensures in
    found-spent new c.args.lits.now c.most_learned-most.result (length c.args.solver.now.learned) c.args.limit
    (c.most_learned-most.ensures ∙ ap (λ k. min (k + c.args.limit) (2 ^ 64 - 1)) count)
    (subst (IsVerdict new c.args.lits.now c.most_learned-most.result) c.in-Spent.is c.in_ok-values.ensures.verdict)
