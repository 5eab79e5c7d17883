-- The steps of the whole coding make its formula.
use Rattle.std.proofs.Common.{◌≡◌, ℕ, ◌+◌, ◌≤◌, Bool, List, [], ◌∷◌, ◌++◌, length, map, Contains, refl, ◌∙◌, ap, arith}
use Rattle.std.proofs.lemmas.List.Elements.{All-nil, All-cons}
use Rattle.litmus_syntax.specs.declared.pred.Pred.{Pred}
use Rattle.clause_store.specs.declared.Lit.{Lit}
use Rattle.clause_store.specs.Clauses.{Formula}
use Rattle.clause_store.proofs.GeneralLists.{Contains-head, Contains-tail}
use Rattle.fer_events.specs.Tables.{Trace}
use Rattle.value_coding.specs.QuestionCells.{cells}
use Rattle.value_coding.specs.LastClauses.{value_formula, last_vars}
use Rattle.value_coding.specs.declared.cell.Cell.{Cell}
use Rattle.value_coding.specs.Cells.{IsThere}
use Rattle.value_coding.specs.Writers.{writers}
use Rattle.value_coding.specs.CodedCells.{coded_cells}
use Rattle.value_coding.specs.declared.cell.CodedCell.{CodedCell}
use Rattle.predicate_coding.specs.CellChoices.{yes_lit}
use Rattle.predicate_coding.specs.Nodes.{node}
use Rattle.predicate_coding.specs.Coding.{cells_of, cell_vars, node_in, wanted, coding}
use Rattle.predicate_coding.specs.Growing.{with_node, IsCoded, AreCoded}

abbrev pub with_last : Formula → Lit → Formula
with_last f l = record f { clauses = f.clauses ++ (l ∷ []) ∷ [] }

module _ (t : Trace) (kept : List (ℕ × ℕ)) (pred : Pred) (want : Bool) where
  abbrev base : Formula
  base = value_formula t.events kept (cells t pred)

  with_wanted : (f : Formula) → Formula
  with_wanted f = record f { clauses = f.clauses ++ (wanted (yes_lit f.vars) want ∷ []) ∷ [] }

  whole : with_wanted (with_node (value_formula t.events kept (cells t pred)) (node_in t pred pred)) ≡ coding t kept pred want
  unfolding with_wanted
  whole =
      let own : cell_vars t pred + ((node_in t pred pred).below + 1) ≡ cell_vars t pred + 1 + (node_in t pred pred).below = omega arith in
      ap (λ (k : ℕ). record {
        vars = cell_vars t pred + ((node_in t pred pred).below + 1);
        clauses = (value_formula t.events kept (cells t pred)).clauses ++ (node_in t pred pred).clauses (cell_vars t pred + 1) ++ (wanted (yes_lit k) want ∷ []) ∷ [];
      }) own

  pub coded :
      (s1 s2 s3 : Formula) (cs : List CodedCell) → s1 ≡ value_formula t.events kept (cells t pred) → cs ≡ cells_of t pred
      → s2 ≡ with_node s1 (node t cs pred) → s3 ≡ record s2 { clauses = s2.clauses ++ (wanted (yes_lit s2.vars) want ∷ []) ∷ [] }
      → s3 ≡ coding t kept pred want
  unfolding with_wanted
  coded s1 s2 s3 cs e f g h =
      h ∙ ap with_wanted (g ∙ ap (λ (s : Formula). with_node s (node t cs pred)) e ∙ ap (λ (cs : List CodedCell). with_node (value_formula t.events kept (cells t pred)) (node t cs pred)) f) ∙ whole

-- the cells of a question are coded with variables up to the last one
pub cells-coded :
    (t : Trace) (cs : List Cell) (first n : ℕ) → ((cell : Cell) → Contains cs cell → IsThere t cell) → 1 ≤ first
    → first + last_vars (map (writers t.events) cs) ≤ n + 1 → AreCoded t n (coded_cells t.events first cs)
cells-coded t [] first n there some room = All-nil (IsCoded t n)
cells-coded t (cell ∷ more) first n there some room =
    All-cons (IsCoded t n) (record { cell = cell; first = first; writers = writers t.events cell }) (coded_cells t.events (first + (length (writers t.events cell) + 1)) more)
    (record { some = some; room = omega arith; writers = refl; there = there cell (Contains-head cell more) })
    (cells-coded t more (first + (length (writers t.events cell) + 1)) n (λ other h. there other (Contains-tail cell more other h)) (omega arith) (omega arith))
