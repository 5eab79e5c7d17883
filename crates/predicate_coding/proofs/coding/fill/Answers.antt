use Rattle.std.proofs.Common.{List, ◌∙◌, refl, sym, ap, subst, arith}
use Rattle.clause_store.specs.Clauses.{Formula}
use Rattle.value_coding.specs.declared.cell.CodedCell.{CodedCell}
use Rattle.value_coding.specs.QuestionCells.{cells}
use Rattle.value_coding.specs.LastClauses.{with_last_writers}
use Rattle.predicate_coding.specs.Growing.{AreCoded}
use Rattle.predicate_coding.proofs.CodedSteps.{coded, cells-coded}
use Rattle.predicate_coding.proofs.coding.fill.Goals as goal

pub code_question-requires-clause-coded : goal.code_question-requires-clause-coded
code_question-requires-clause-coded c =
    let store = c.in_ok-cells.ensures.ok ∙ ap (with_last_writers c.args.events.now.events (cells c.args.events.now c.args.pred.now)) c.in_ok-code_order.ensures.ok in
    let vars = ap (λ (f : Formula). f.vars) store in
    subst (λ (cs : List CodedCell). AreCoded c.args.events.now c.code_cells.new.store.vars cs)
    (sym (c.as_slice.ensures ∙ c.in_ok-cells.ensures.cells))
    (cells-coded c.args.events.now (cells c.args.events.now c.args.pred.now) _ c.code_cells.new.store.vars
    (λ cell h. (c.segments_are_not_divided.ensures.cells c.args.events.now c.args.pred.now cell h).0) (omega arith) (omega (arith, vars)))

pub returns : goal.returns
returns c =
    coded c.args.events.now c.args.pairs.now.pairs c.args.pred.now c.args.want c.code_cells.new.store _ c.code_question.new.store c.as_slice.result.now
    (c.in_ok-cells.ensures.ok ∙ ap (with_last_writers c.args.events.now.events (cells c.args.events.now c.args.pred.now)) c.in_ok-code_order.ensures.ok)
    (c.as_slice.ensures ∙ c.in_ok-cells.ensures.cells) refl c.in_ok-code_question.ensures
