-- The whole coding: crashes, last writers, the predicate, and what is asked of it.
use Rattle.std.specs.Prelude.{ℕ, ◌+◌, Bool, List, [], ◌∷◌, ◌++◌, length, if◌then◌else◌}
use Rattle.litmus_syntax.specs.declared.pred.Pred.{Pred}
use Rattle.clause_store.specs.declared.Lit.{Lit}
use Rattle.clause_store.specs.Clauses.{Formula, negated}
use Rattle.fer_events.specs.Tables.{Trace}
use Rattle.order_coding.specs.Variables.{order_vars}
use Rattle.value_coding.specs.QuestionCells.{cells}
use Rattle.value_coding.specs.CodedCells.{coded_cells}
use Rattle.value_coding.specs.LastClauses.{value_formula}
use Rattle.value_coding.specs.declared.cell.CodedCell.{CodedCell}
use Rattle.predicate_coding.specs.AtomNodes.{Node}
use Rattle.predicate_coding.specs.Nodes.{node, own_lit}

-- the cells of a question with their variables, which stand behind those of the order
abbrev pub cells_of : Trace → Pred → List CodedCell
cells_of t pred = coded_cells t.events (order_vars (length t.events) + 1) (cells t pred)

-- how many variables the order and the cells have
abbrev pub cell_vars : Trace → Pred → ℕ
cell_vars t pred = (value_formula t.events [] (cells t pred)).vars

-- the node of a part of a question
abbrev pub node_in : Trace → Pred → Pred → Node
node_in t question part = node t (cells_of t question) part

-- `exists:` wants the predicate true, `always:` false
abbrev pub wanted : Lit → Bool → Lit
wanted own want = if want then own else negated own

abbrev pub coding : Trace → List (ℕ × ℕ) → Pred → Bool → Formula
coding t kept pred want = record {
  vars = cell_vars t pred + ((node_in t pred pred).below + 1);
  clauses =
      (value_formula t.events kept (cells t pred)).clauses
      ++ (node_in t pred pred).clauses (cell_vars t pred + 1)
      ++ (wanted (own_lit (node_in t pred pred) (cell_vars t pred + 1)) want ∷ []) ∷ [];
}
