use Rattle.std.proofs.Common.{inl, inr, ◌∙◌, ap, ℕ, ◌+◌}
use Rattle.std.proofs.lemmas.Result.{err_from_is_err_and}
use Rattle.order_coding.proofs.GeneralGrowth.{beginning-same}
use Rattle.value_coding.specs.QuestionCells.{cells}
use Rattle.value_coding.proofs.CodedSteps.{coded-again, whole-same}
use Rattle.value_coding.proofs.coding.code_cells.Goals as goal

pub add_cells-requires-clause-coded : goal.add_cells-requires-clause-coded
add_cells-requires-clause-coded c =
    coded-again c.args.events.now.events c.events.result.now (cells c.args.events.now c.args.pred.now) c.in_ok-first.first (c.args.store.now.vars + 1) c.in_ok-cells.cells c.as_slice.result.now
    c.as_slice.ensures c.in_ok-cells.ensures (c.in_ok-first.ensures ∙ ap (λ (k : ℕ). k + 1) c.vars.ensures.number) c.events.ensures

pub returns-in_err-add_cells-clause-err : goal.returns-in_err-add_cells-clause-err
returns-in_err-add_cells-clause-err c =
    let p = err_from_is_err_and c.from_residual-in_err-add_cells.result c.from_residual-in_err-add_cells.ensures.1 in
    let whole =
    whole-same c.args.events.now.events c.events.result.now (cells c.args.events.now c.args.pred.now) c.in_ok-first.first (c.args.store.now.vars + 1) c.in_ok-cells.cells c.as_slice.result.now
    c.as_slice.ensures c.in_ok-cells.ensures (c.in_ok-first.ensures ∙ ap (λ (k : ℕ). k + 1) c.vars.ensures.number) c.events.ensures c.args.store.now in
    rw p.1
    (elim c.in_err-add_cells.ensures.err [
      | inl same ↦ inl same
      | inr part ↦ inr (beginning-same c.add_cells.new.store _ _ whole part)
    ])

pub returns-clause-ok : goal.returns-clause-ok
returns-clause-ok c =
    c.in_ok-add_cells.ensures.ok
    ∙ whole-same c.args.events.now.events c.events.result.now (cells c.args.events.now c.args.pred.now) c.in_ok-first.first (c.args.store.now.vars + 1) c.in_ok-cells.cells c.as_slice.result.now
    c.as_slice.ensures c.in_ok-cells.ensures (c.in_ok-first.ensures ∙ ap (λ (k : ℕ). k + 1) c.vars.ensures.number) c.events.ensures c.args.store.now
