-- The node and the truth of each form of a predicate.
use Rattle.std.proofs.Common.{◌≡◌, ℕ, List, Bool, true, false, not, ◌&&◌, ◌||◌, is_some, unwrap_or}
use Rattle.litmus_syntax.specs.declared.pred.Pred as whole
use Rattle.litmus_syntax.specs.declared.pred.Pred.{Pred, fold-roll-Pred}
use Rattle.litmus_syntax.specs.declared.pred.Pred.TheOpen as atom
use Rattle.litmus_syntax.specs.declared.pred.Pred.TheVariants as pred
use Rattle.fer_events.specs.States.{State}
use Rattle.fer_events.specs.Tables.{Trace}
use Rattle.fer_events.specs.Truth.{slot_number, text_number, held_file, item_at, on_file, same_file, truth, truth_of}
use Rattle.predicate_coding.specs.declared.asked.Asked.TheVariants.{Presence, ItsSize, Content, TextAt, Attribute}
use Rattle.predicate_coding.specs.Asking.{meets}
use Rattle.value_coding.specs.declared.cell.CodedCell.{CodedCell}
use Rattle.predicate_coding.specs.AtomNodes.{Node, path_node, same_node, marks, seen_node, always, never}
use Rattle.predicate_coding.specs.Nodes.{node_of, node, not_node, two_node, and_clauses, or_clauses}

module _ (t : Trace) (cells : List CodedCell) where
  pub node-True : node t cells pred.True ≡ always
  unfolding whole.roll-Pred denote.Hole.Carrier.roll
  node-True = fold-roll-Pred Node (node_of t cells) atom.True

  pub node-False : node t cells pred.False ≡ never
  unfolding whole.roll-Pred denote.Hole.Carrier.roll
  node-False = fold-roll-Pred Node (node_of t cells) atom.False

  pub node-Exists : (path : List (List ℕ)) → node t cells (pred.Exists path) ≡ path_node t cells Presence (slot_number t path)
  unfolding whole.roll-Pred denote.Hole.Carrier.roll
  node-Exists path = fold-roll-Pred Node (node_of t cells) (atom.Exists path)

  pub node-Same : (left right : List (List ℕ)) → node t cells (pred.Same left right) ≡ same_node t cells (slot_number t left) (slot_number t right)
  unfolding whole.roll-Pred denote.Hole.Carrier.roll
  node-Same left right = fold-roll-Pred Node (node_of t cells) (atom.Same left right)

  pub node-SizeIs : (path : List (List ℕ)) (size : ℕ) → node t cells (pred.SizeIs path size) ≡ path_node t cells (ItsSize size) (slot_number t path)
  unfolding whole.roll-Pred denote.Hole.Carrier.roll
  node-SizeIs path size = fold-roll-Pred Node (node_of t cells) (atom.SizeIs path size)

  pub node-ContentIs : (path : List (List ℕ)) (text : List ℕ) → node t cells (pred.ContentIs path text) ≡ path_node t cells (Content text) (slot_number t path)
  unfolding whole.roll-Pred denote.Hole.Carrier.roll
  node-ContentIs path text = fold-roll-Pred Node (node_of t cells) (atom.ContentIs path text)

  pub node-BytesAre : (path : List (List ℕ)) (at : ℕ) (text : List ℕ) → node t cells (pred.BytesAre path at text) ≡ path_node t cells (TextAt at text) (slot_number t path)
  unfolding whole.roll-Pred denote.Hole.Carrier.roll
  node-BytesAre path at text = fold-roll-Pred Node (node_of t cells) (atom.BytesAre path at text)

  pub node-AttrIs : (path : List (List ℕ)) (key : List ℕ) (value : ℕ) → node t cells (pred.AttrIs path key value) ≡ path_node t cells (Attribute (text_number t.keys key) value) (slot_number t path)
  unfolding whole.roll-Pred denote.Hole.Carrier.roll
  node-AttrIs path key value = fold-roll-Pred Node (node_of t cells) (atom.AttrIs path key value)

  pub node-Seen : (word : List ℕ) → node t cells (pred.Seen word) ≡ seen_node (marks t (text_number t.words word))
  unfolding whole.roll-Pred denote.Hole.Carrier.roll
  node-Seen word = fold-roll-Pred Node (node_of t cells) (atom.Seen word)

  pub node-Not : (p : Pred) → node t cells (pred.Not p) ≡ not_node (node t cells p)
  unfolding whole.roll-Pred denote.Hole.Carrier.roll
  node-Not p = fold-roll-Pred Node (node_of t cells) (atom.Not p)

  pub node-And : (p q : Pred) → node t cells (pred.And p q) ≡ two_node and_clauses (node t cells p) (node t cells q)
  unfolding whole.roll-Pred denote.Hole.Carrier.roll
  node-And p q = fold-roll-Pred Node (node_of t cells) (atom.And p q)

  pub node-Or : (p q : Pred) → node t cells (pred.Or p q) ≡ two_node or_clauses (node t cells p) (node t cells q)
  unfolding whole.roll-Pred denote.Hole.Carrier.roll
  node-Or p q = fold-roll-Pred Node (node_of t cells) (atom.Or p q)

module _ (t : Trace) (s : State) where
  pub truth-True : truth t s pred.True ≡ true
  unfolding whole.roll-Pred denote.Hole.Carrier.roll
  truth-True = fold-roll-Pred Bool (truth_of t s) atom.True

  pub truth-False : truth t s pred.False ≡ false
  unfolding whole.roll-Pred denote.Hole.Carrier.roll
  truth-False = fold-roll-Pred Bool (truth_of t s) atom.False

  pub truth-Exists : (path : List (List ℕ)) → truth t s (pred.Exists path) ≡ is_some (held_file t s path)
  unfolding whole.roll-Pred denote.Hole.Carrier.roll
  truth-Exists path = fold-roll-Pred Bool (truth_of t s) (atom.Exists path)

  pub truth-Same : (left right : List (List ℕ)) → truth t s (pred.Same left right) ≡ same_file (held_file t s left) (held_file t s right)
  unfolding whole.roll-Pred denote.Hole.Carrier.roll
  truth-Same left right = fold-roll-Pred Bool (truth_of t s) (atom.Same left right)

  pub truth-SizeIs : (path : List (List ℕ)) (size : ℕ) → truth t s (pred.SizeIs path size) ≡ on_file (held_file t s path) (meets s (ItsSize size))
  unfolding whole.roll-Pred denote.Hole.Carrier.roll
  truth-SizeIs path size = fold-roll-Pred Bool (truth_of t s) (atom.SizeIs path size)

  pub truth-ContentIs : (path : List (List ℕ)) (text : List ℕ) → truth t s (pred.ContentIs path text) ≡ on_file (held_file t s path) (meets s (Content text))
  unfolding whole.roll-Pred denote.Hole.Carrier.roll
  truth-ContentIs path text = fold-roll-Pred Bool (truth_of t s) (atom.ContentIs path text)

  pub truth-BytesAre : (path : List (List ℕ)) (at : ℕ) (text : List ℕ) → truth t s (pred.BytesAre path at text) ≡ on_file (held_file t s path) (meets s (TextAt at text))
  unfolding whole.roll-Pred denote.Hole.Carrier.roll
  truth-BytesAre path at text = fold-roll-Pred Bool (truth_of t s) (atom.BytesAre path at text)

  pub truth-AttrIs : (path : List (List ℕ)) (key : List ℕ) (value : ℕ) → truth t s (pred.AttrIs path key value) ≡ on_file (held_file t s path) (meets s (Attribute (text_number t.keys key) value))
  unfolding whole.roll-Pred denote.Hole.Carrier.roll
  truth-AttrIs path key value = fold-roll-Pred Bool (truth_of t s) (atom.AttrIs path key value)

  pub truth-Seen : (word : List ℕ) → truth t s (pred.Seen word) ≡ unwrap_or (item_at s.seen (text_number t.words word)) false
  unfolding whole.roll-Pred denote.Hole.Carrier.roll
  truth-Seen word = fold-roll-Pred Bool (truth_of t s) (atom.Seen word)

  pub truth-Not : (p : Pred) → truth t s (pred.Not p) ≡ not (truth t s p)
  unfolding whole.roll-Pred denote.Hole.Carrier.roll
  truth-Not p = fold-roll-Pred Bool (truth_of t s) (atom.Not p)

  pub truth-And : (p q : Pred) → truth t s (pred.And p q) ≡ truth t s p && truth t s q
  unfolding whole.roll-Pred denote.Hole.Carrier.roll
  truth-And p q = fold-roll-Pred Bool (truth_of t s) (atom.And p q)

  pub truth-Or : (p q : Pred) → truth t s (pred.Or p q) ≡ truth t s p || truth t s q
  unfolding whole.roll-Pred denote.Hole.Carrier.roll
  truth-Or p q = fold-roll-Pred Bool (truth_of t s) (atom.Or p q)
