use Rattle.std.proofs.Common.{ℕ, ◌+◌, ◌≤◌, List, length, sym, ◌∙◌, ap, subst, arith}
use Rattle.std.proofs.lemmas.Result.{err_from_is_err_and}
use Rattle.clause_store.specs.Clauses.{Formula}
use Rattle.order_coding.specs.Growth.{IsBeginning, joined}
use Rattle.order_coding.proofs.GeneralGrowth.{items-more, items-part}
use Rattle.value_coding.specs.declared.cell.CodedCell.{CodedCell}
use Rattle.value_coding.specs.LastClauses.{last_clauses}
use Rattle.value_coding.specs.LastWriting.{AreWriters}
use Rattle.value_coding.proofs.last_clauses.code_last_writers.Goals as goal

pub loop-cell-preserved : goal.loop-cell-preserved
loop-cell-preserved c =
    let more =
    items-more (λ (x : CodedCell). last_clauses c.args.n x.first x.writers) c.args.cells.now c.loop-cell.cell-index c.cell-item.result c.args.store.now c.loop-cell.store c.code_last.new.store
    (omega arith) c.loop-cell.invariant.written
    (c.in_ok-code_last.ensures.ok
    ∙ ap (λ (ws : List ℕ). joined c.loop-cell.store (last_clauses c.args.n c.cell-item.result.first ws)) c.as_slice.ensures
    ∙ ap (λ (x : CodedCell). joined c.loop-cell.store (last_clauses c.args.n x.first x.writers)) c.cell-item.is) in
    record { vars = ap (λ (s : Formula). s.vars) more; written = more }

pub code_last-requires : goal.code_last-requires
code_last-requires c =
    let there = subst (λ (x : CodedCell). AreWriters c.args.n x.writers) (sym c.cell-item.is) (c.requires.writers c.loop-cell.cell-index c.cell-item.result (omega arith)) in
    let room = subst (λ (x : CodedCell). (1 ≤ x.first) × (x.first + length x.writers ≤ c.args.store.now.vars)) (sym c.cell-item.is) (c.requires.room c.loop-cell.cell-index c.cell-item.result (omega arith)) in
    record {
      few = c.requires.few;
      order = omega (arith, c.requires.order, c.loop-cell.invariant.vars);
      writers = subst (λ (ws : List ℕ). AreWriters c.args.n ws) (sym c.as_slice.ensures) there;
      some = room.0;
      room = omega (arith, room.1, c.loop-cell.invariant.vars, ap length c.as_slice.ensures);
      small = omega arith;
    }

pub returns-in_err-code_last-clause-err : goal.returns-in_err-code_last-clause-err
returns-in_err-code_last-clause-err c =
    let p = err_from_is_err_and c.from_residual.result c.from_residual.ensures.1 in
    rw p.1
    (items-part (λ (x : CodedCell). last_clauses c.args.n x.first x.writers) c.args.cells.now c.loop-cell.cell-index c.cell-item.result c.args.store.now c.loop-cell.store c.code_last.new.store
    (omega arith) c.loop-cell.invariant.written
    (subst (λ (x : CodedCell). IsBeginning c.code_last.new.store (joined c.loop-cell.store (last_clauses c.args.n x.first x.writers))) c.cell-item.is
    (subst (λ (ws : List ℕ). IsBeginning c.code_last.new.store (joined c.loop-cell.store (last_clauses c.args.n c.cell-item.result.first ws))) c.as_slice.ensures
    c.in_err-code_last.ensures.err)))
