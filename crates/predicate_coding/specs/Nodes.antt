-- The nodes of a predicate, for each its operands first: variables and clauses that say its truth.
use Rattle.std.specs.Prelude.{ℕ, ◌+◌, List, [], ◌∷◌, ◌++◌}
use Rattle.litmus_syntax.specs.declared.pred.Pred.{Pred, fold-Pred}
use Rattle.litmus_syntax.specs.declared.pred.Pred.TheOpen.{Pred-F}
use Rattle.clause_store.specs.declared.Lit.{Lit}
use Rattle.clause_store.specs.Clauses.{negated}
use Rattle.fer_events.specs.Tables.{Trace}
use Rattle.fer_events.specs.Truth.{slot_number, text_number}
use Rattle.value_coding.specs.declared.cell.CodedCell.{CodedCell}
use Rattle.predicate_coding.specs.declared.asked.Asked.TheVariants.{Presence, ItsSize, Content, TextAt, Attribute}
use Rattle.predicate_coding.specs.CellChoices.{yes_lit}
use Rattle.predicate_coding.specs.AtomNodes.{Node, never, always, path_node, same_node, marks, seen_node}
use Rattle.litmus_syntax.specs.declared.pred.Pred.TheOpen as atom

abbrev pub not_clauses : Lit → Lit → List (List Lit)
not_clauses own x = (own ∷ x ∷ []) ∷ (negated own ∷ negated x ∷ []) ∷ []

-- a node with one operand
abbrev pub not_node : Node → Node
not_node x = record {
  below = x.below + 1;
  clauses = λ first. x.clauses first ++ not_clauses (yes_lit (first + (x.below + 1))) (yes_lit (first + x.below));
}

abbrev pub and_clauses : Lit → Lit → Lit → List (List Lit)
and_clauses own x y =
    (negated own ∷ x ∷ []) ∷ (negated own ∷ y ∷ []) ∷ (own ∷ negated x ∷ negated y ∷ []) ∷ []

abbrev pub or_clauses : Lit → Lit → Lit → List (List Lit)
or_clauses own x y =
    (own ∷ negated x ∷ []) ∷ (own ∷ negated y ∷ []) ∷ (negated own ∷ x ∷ y ∷ []) ∷ []

-- a node with two operands; the variables of the right one stand behind those of the left one
abbrev pub two_node : (Lit → Lit → Lit → List (List Lit)) → Node → Node → Node
two_node joins x y = record {
  below = x.below + 1 + (y.below + 1);
  clauses = λ first.
      x.clauses first
      ++ y.clauses (first + (x.below + 1))
      ++ joins (yes_lit (first + (x.below + 1 + (y.below + 1)))) (yes_lit (first + x.below)) (yes_lit (first + (x.below + 1) + y.below));
}

abbrev pub node_of : Trace → List CodedCell → Pred-F Node → Node
node_of t cells atom.True = always
node_of t cells atom.False = never
node_of t cells (atom.Exists path) = path_node t cells Presence (slot_number t path)
node_of t cells (atom.Same left right) = same_node t cells (slot_number t left) (slot_number t right)
node_of t cells (atom.SizeIs path size) = path_node t cells (ItsSize size) (slot_number t path)
node_of t cells (atom.ContentIs path text) = path_node t cells (Content text) (slot_number t path)
node_of t cells (atom.BytesAre path at text) = path_node t cells (TextAt at text) (slot_number t path)
node_of t cells (atom.AttrIs path key value) = path_node t cells (Attribute (text_number t.keys key) value) (slot_number t path)
node_of t cells (atom.Seen word) = seen_node (marks t (text_number t.words word))
node_of t cells (atom.Not inner) = not_node inner
node_of t cells (atom.And left right) = two_node and_clauses left right
node_of t cells (atom.Or left right) = two_node or_clauses left right

-- the node of a predicate over these cells
abbrev pub node : Trace → List CodedCell → Pred → Node
node t cells pred = fold-Pred Node (node_of t cells) pred

-- the node's own variable
abbrev pub own_lit : Node → ℕ → Lit
own_lit x first = yes_lit (first + x.below)
