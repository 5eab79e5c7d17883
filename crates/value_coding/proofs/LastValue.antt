-- So the variable of a cell that is true names the value that the cell has after the crash.
use Rattle.std.proofs.Common.{◌≡◌, ℕ, ◌≤◌, Bool, true, List, length, Some, slice_get, Contains, sym, ◌∙◌, ap}
use Rattle.std.proofs.lemmas.Option.{slice_get_within, get_or_from_slice_get}
use Rattle.litmus_syntax.specs.declared.pred.Pred.{Pred}
use Rattle.clause_store.specs.Truth.{is_true, MakesAllTrue}
use Rattle.fer_events.specs.declared.event.Crash.{Crash}
use Rattle.fer_events.specs.Orders.{before_cut}
use Rattle.fer_events.specs.Tables.{Trace, IsTrace}
use Rattle.fer_events.specs.States.{after_crash}
use Rattle.order_coding.specs.Families.{order_clauses}
use Rattle.value_coding.specs.declared.cell.Cell.{Cell}
use Rattle.value_coding.specs.Cells.{cell_value}
use Rattle.value_coding.specs.QuestionCells.{cells}
use Rattle.value_coding.specs.Writers.{writers, value_by}
use Rattle.value_coding.specs.LastWriter.{last_writer}
use Rattle.value_coding.specs.LastClauses.{last_lit, value_formula, first_var, named_writer}
use Rattle.value_coding.proofs.GeneralSegments.{question-decides}
use Rattle.value_coding.proofs.LastIs.{IsToldOf, decoded-last}

pub last-value :
    (t : Trace) (kept : List (ℕ × ℕ)) (pred : Pred) (v : List Bool) (crash : Crash) (i j : ℕ) (cell : Cell) → IsTrace t
    → MakesAllTrue v (value_formula t.events kept (cells t pred)).clauses
    → (MakesAllTrue v (order_clauses t.events kept) → IsToldOf v t.events crash)
    → slice_get (cells t pred) i ≡ Some cell → j ≤ length (writers t.events cell)
    → is_true v (last_lit (first_var t.events (cells t pred) i) j) ≡ true
    → cell_value (after_crash t crash) cell ≡ value_by t cell (named_writer (writers t.events cell) j)
last-value t kept pred v crash i j cell rules all d is l h =
    let says = decoded-last t.events kept (cells t pred) v crash i cell all d is in
    let there : Contains (cells t pred) cell = (i, slice_get_within (cells t pred) i cell is, get_or_from_slice_get (cells t pred) i cell cell is) in
    let names : named_writer (writers t.events cell) j ≡ last_writer t.events cell (before_cut crash) =
    ap (named_writer (writers t.events cell)) ((says.one j l).0 h) ∙ says.names in
    question-decides t pred cell (before_cut crash) rules there ∙ ap (value_by t cell) (sym names)
