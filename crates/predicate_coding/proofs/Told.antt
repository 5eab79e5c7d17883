-- What values say of the cells and of the events: of each cell, the one choice whose value the cell holds; of each event,
-- whether it is in.
use Rattle.std.proofs.Common.{◌≡◌, ◌↔◌, ℕ, ◌≤◌, Bool, true, List, length, Contains}
use Rattle.litmus_syntax.specs.declared.pred.Pred.{Pred}
use Rattle.clause_store.specs.Truth.{is_true}
use Rattle.fer_events.specs.States.{State, after_numbers, start_state}
use Rattle.fer_events.specs.Tables.{Trace}
use Rattle.order_coding.specs.Variables.{IsNumber}
use Rattle.order_coding.specs.Decoded.{is_in}
use Rattle.value_coding.specs.declared.cell.Cell.{Cell}
use Rattle.value_coding.specs.Cells.{cell_value}
use Rattle.value_coding.specs.QuestionCells.{cells}
use Rattle.value_coding.specs.Writers.{writers}
use Rattle.value_coding.specs.LastClauses.{last_lit}
use Rattle.value_coding.specs.declared.cell.CodedCell.{CodedCell}
use Rattle.predicate_coding.specs.CellChoices.{choice_value}

pub record Told (t : Trace) (v : List Bool) (s : State) (c : CodedCell) : Type 0 where
  pub number : ℕ
  pub within : number ≤ length (writers t.events c.cell)
  pub holds : choice_value t c.cell number ≡ cell_value s c.cell
  pub one : (j : ℕ) → j ≤ length (writers t.events c.cell) → (is_true v (last_lit c.first j) ≡ true) ↔ (j ≡ number)

-- the values tell what each cell of the question holds in the state
pub record Tells (t : Trace) (q : Pred) (v : List Bool) (s : State) (own : List CodedCell) : Type 0 where
  pub told : (c : CodedCell) → Contains own c → Told t v s c
  pub has : (cell : Cell) → Contains (cells t q) cell → (first : ℕ) × Contains own (record { cell = cell; first = first; writers = writers t.events cell })
  pub from : (c : CodedCell) → Contains own c → Contains (cells t q) c.cell

-- and which events are in
pub record Knows (t : Trace) (q : Pred) (order : List ℕ) (own : List CodedCell) (v : List Bool) : Type 0 where
  pub tells : Tells t q v (after_numbers t.events (start_state t) order) own
  pub inside : (e : ℕ) → IsNumber (length t.events) e → (is_in v e ≡ true) ↔ Contains order e
