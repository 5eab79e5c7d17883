use Rattle.std.proofs.Common.{inr, List, ℕ, ◌+◌, ◌≤◌, map, refl, sym, ◌∙◌, ap, subst, arith, length}
use Rattle.std.specs.List.{All}
use Rattle.std.proofs.lemmas.Result.{err_from_is_err_and}
use Rattle.clause_store.specs.Clauses.{Formula}
use Rattle.order_coding.proofs.GeneralGrowth.{beginning-same}
use Rattle.value_coding.specs.declared.cell.Cell.{Cell}
use Rattle.value_coding.specs.declared.cell.CodedCell.{CodedCell}
use Rattle.value_coding.specs.LastClauses.{last_vars}
use Rattle.value_coding.specs.LastWriting.{AreWriters}
use Rattle.value_coding.proofs.CodedSteps.{coded-codable, coded-room, vars-are, all-written}
use Rattle.value_coding.proofs.coding.add_cells.Goals as goal

pub code_last_writers-requires : goal.code_last_writers-requires
code_last_writers-requires c =
    let cells : List Cell = map (λ (x : CodedCell). x.cell) c.args.cells.now in
    let v = c.in_ok-vars.ensures ∙ ap (λ (k : ℕ). k + last_vars (map (λ (x : CodedCell). x.writers) c.args.cells.now)) c.vars.ensures.number in
    let vars = vars-are c.args.events.now (length c.args.events.now) refl c.args.store.now c.raise_vars.new.self c.args.cells.now c.requires.coded c.in_ok-vars.vars v c.raise_vars.ensures in
    let raised = ap (λ (f : Formula). f.vars) c.raise_vars.ensures in
    record {
      few = c.requires.few;
      order = omega (arith, c.requires.order, v, raised);
      writers =
          subst (λ (xs : List CodedCell). All (λ (x : CodedCell). AreWriters (length c.args.events.now) x.writers) xs) (sym c.requires.coded)
          (coded-codable c.args.events.now (map (λ (x : CodedCell). x.cell) c.args.cells.now) (c.args.store.now.vars + 1) c.requires.few);
      room =
          subst (λ (xs : List CodedCell). All (λ (x : CodedCell). (1 ≤ x.first) × (x.first + length x.writers ≤ c.raise_vars.new.self.vars)) xs) (sym c.requires.coded)
          (coded-room c.args.events.now (map (λ (x : CodedCell). x.cell) c.args.cells.now) (c.args.store.now.vars + 1) c.raise_vars.new.self.vars (omega arith) (omega (arith, vars, raised)));
    }

pub returns-in_err-code_last_writers-clause-err : goal.returns-in_err-code_last_writers-clause-err
returns-in_err-code_last_writers-clause-err c =
    let p = err_from_is_err_and c.from_residual-in_err-code_last_writers.result c.from_residual-in_err-code_last_writers.ensures.1 in
    let v = c.in_ok-vars.ensures ∙ ap (λ (k : ℕ). k + last_vars (map (λ (x : CodedCell). x.writers) c.args.cells.now)) c.vars.ensures.number in
    rw p.1
    (inr (beginning-same c.code_last_writers.new.store _ _
    (all-written c.args.events.now (length c.args.events.now) refl c.args.store.now c.raise_vars.new.self c.args.cells.now c.requires.coded c.in_ok-vars.vars v c.raise_vars.ensures)
    c.in_err-code_last_writers.ensures.err))

pub returns-clause-ok : goal.returns-clause-ok
returns-clause-ok c =
    let v = c.in_ok-vars.ensures ∙ ap (λ (k : ℕ). k + last_vars (map (λ (x : CodedCell). x.writers) c.args.cells.now)) c.vars.ensures.number in
    c.in_ok-code_last_writers.ensures.ok
    ∙ all-written c.args.events.now (length c.args.events.now) refl c.args.store.now c.raise_vars.new.self c.args.cells.now c.requires.coded c.in_ok-vars.vars v c.raise_vars.ensures
