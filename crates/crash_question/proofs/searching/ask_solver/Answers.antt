use Rattle.std.proofs.Common.{◌≡◌, ◌≤◌, ◌<◌, true, false, length, [], sym, subst}
use Rattle.clause_store.specs.Clauses.{Formula}
use Rattle.proof_log.specs.Logs.{Derivation}
use Rattle.cdcl_core.specs.Answering.{IsVerdict}
use Rattle.crash_question.specs.Answers.{IsRefutation, IsOpenPart}
use Rattle.crash_question.proofs.Ending.{ended_values, ended_refuted, ended_spent, same_part, lessons_of}
use Rattle.crash_question.proofs.searching.ask_solver.Goals as goal

pub returns-in-Satisfied : goal.returns-in-Satisfied
returns-in-Satisfied g c =
    let e = c.in_ok-values.ensures in
    let old = c.args.solver.now in
    ended_values (record { vars = old.vars; clauses = old.clauses }) c.solve.new.self c.args.limit e.vars e.clauses (lessons_of old c.solve.new.self c.requires.fresh e.learned) e.within
    c.in-Satisfied.values (subst (IsVerdict c.solve.new.self [] c.args.limit) c.in-Satisfied.is e.verdict)

pub returns-in_ok-part-in-Refuted : goal.returns-in_ok-part-in-Refuted
returns-in_ok-part-in-Refuted g c =
    let e = c.in_ok-values.ensures in
    let old = c.args.solver.now in
    let new = c.solve.new.self in
    let f : Formula = record { vars = old.vars; clauses = old.clauses } in
    let P : Derivation → Type 0 = λ part. IsRefutation f part × (length part.learned ≤ c.args.limit) in
    let part = same_part c.args.vars c.args.clauses f new.learned true c.in_ok-part-in-Refuted.part c.requires.vars c.requires.clauses c.in_ok-part-in-Refuted.ensures in
    subst P (sym part)
    (ended_refuted f new c.args.limit e.vars e.clauses (lessons_of old new c.requires.fresh e.learned) e.within
    c.in-Refuted._part (subst (IsVerdict new [] c.args.limit) c.in-Refuted.is e.verdict))

pub returns-in_ok-part-in-Spent : goal.returns-in_ok-part-in-Spent
returns-in_ok-part-in-Spent g c =
    let e = c.in_ok-values.ensures in
    let old = c.args.solver.now in
    let new = c.solve.new.self in
    let f : Formula = record { vars = old.vars; clauses = old.clauses } in
    let P : Derivation → Type 0 = λ part. IsOpenPart f part × (length part.learned ≡ c.args.limit) × (c.args.limit < 18446744073709551615) in
    let part = same_part c.args.vars c.args.clauses f new.learned false c.in_ok-part-in-Spent.part c.requires.vars c.requires.clauses c.in_ok-part-in-Spent.ensures in
    subst P (sym part)
    (ended_spent f new c.args.limit e.vars e.clauses (lessons_of old new c.requires.fresh e.learned) e.within
    (subst (IsVerdict new [] c.args.limit) c.in-Spent.is e.verdict))
