use Rattle.std.proofs.Common.{Bool, List, length, subst}
use Rattle.order_coding.specs.Decoded.{IsDecoded}
use Rattle.crash_question.specs.Outcomes.{IsOutcome}
use Rattle.crash_question.proofs.Telling.{told_allowed, told_forbidden, told_spent}
use Rattle.crash_question.proofs.asking.ask.Goals as goal

pub returns-in_ok-crash-in-Values-clause-answer : goal.returns-in_ok-crash-in-Values-clause-answer
returns-in_ok-crash-in-Values-clause-answer g c =
    let a = c.args in
    let coded = c.in_ok-store.ensures in
    let found = subst (IsOutcome c.in_ok-store.field-0.store a.limit) c.in-Values.is c.in_ok-values.ensures in
    let crash = c.in_ok-crash-in-Values.crash in
    let decoded = subst (λ (vs : List Bool). IsDecoded (length a.events.now.events) vs crash) c.as_slice.ensures c.in_ok-crash-in-Values.ensures.decoded in
    told_allowed a.events.now a.pairs.now.pairs a.pred.now a.want a.limit c.in_ok-store.field-0.store coded.sound c.in-Values.values crash found.1 decoded

pub returns-in-Refuted-clause-answer : goal.returns-in-Refuted-clause-answer
returns-in-Refuted-clause-answer g c =
    let a = c.args in
    let coded = c.in_ok-store.ensures in
    told_forbidden a.events.now a.pairs.now.pairs a.pred.now a.want a.limit c.in_ok-store.field-0.store coded.clauses coded.complete c.derived_clauses_are_true.ensures.refuted
    c.in-Refuted.part (subst (IsOutcome c.in_ok-store.field-0.store a.limit) c.in-Refuted.is c.in_ok-values.ensures)

pub returns-in-Spent-clause-answer : goal.returns-in-Spent-clause-answer
returns-in-Spent-clause-answer g c =
    let a = c.args in
    told_spent a.events.now a.pairs.now.pairs a.pred.now a.want a.limit c.in_ok-store.field-0.store c.in_ok-store.ensures.clauses
    c.in-Spent.part (subst (IsOutcome c.in_ok-store.field-0.store a.limit) c.in-Spent.is c.in_ok-values.ensures)
