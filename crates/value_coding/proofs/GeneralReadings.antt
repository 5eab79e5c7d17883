-- General: what each form of a predicate reads.
use Rattle.std.proofs.Common.{◌≡◌, ℕ, List, [], ◌∷◌, ◌++◌, length}
use Rattle.litmus_syntax.specs.declared.pred.Pred as whole
use Rattle.litmus_syntax.specs.declared.pred.Pred.{Pred, fold-roll-Pred}
use Rattle.litmus_syntax.specs.declared.pred.Pred.TheOpen as atom
use Rattle.litmus_syntax.specs.declared.pred.Pred.TheVariants as pred
use Rattle.fer_events.specs.Tables.{Trace}
use Rattle.fer_events.specs.Truth.{slot_number, text_number}
use Rattle.value_coding.specs.declared.reading.Part.{Part}
use Rattle.value_coding.specs.declared.reading.Part.TheVariants.{Name, Size, Places}
use Rattle.value_coding.specs.Readings.{at_slot, key_part, readings_of, readings}

module _ (t : Trace) where
  abbrev Read : Type 0
  Read = List (ℕ × Part)

  pub readings-Exists : (path : List (List ℕ)) → readings t (pred.Exists path) ≡ at_slot (slot_number t path) (Name ∷ [])
  unfolding whole.roll-Pred denote.Hole.Carrier.roll
  readings-Exists path = fold-roll-Pred Read (readings_of t) (atom.Exists path)

  pub readings-Same : (left right : List (List ℕ)) → readings t (pred.Same left right) ≡ at_slot (slot_number t left) (Name ∷ []) ++ at_slot (slot_number t right) (Name ∷ [])
  unfolding whole.roll-Pred denote.Hole.Carrier.roll
  readings-Same left right = fold-roll-Pred Read (readings_of t) (atom.Same left right)

  pub readings-SizeIs : (path : List (List ℕ)) (size : ℕ) → readings t (pred.SizeIs path size) ≡ at_slot (slot_number t path) (Name ∷ Size ∷ [])
  unfolding whole.roll-Pred denote.Hole.Carrier.roll
  readings-SizeIs path size = fold-roll-Pred Read (readings_of t) (atom.SizeIs path size)

  pub readings-ContentIs : (path : List (List ℕ)) (text : List ℕ) → readings t (pred.ContentIs path text) ≡ at_slot (slot_number t path) (Name ∷ Size ∷ Places 0 (length text) ∷ [])
  unfolding whole.roll-Pred denote.Hole.Carrier.roll
  readings-ContentIs path text = fold-roll-Pred Read (readings_of t) (atom.ContentIs path text)

  pub readings-BytesAre : (path : List (List ℕ)) (at : ℕ) (text : List ℕ) → readings t (pred.BytesAre path at text) ≡ at_slot (slot_number t path) (Name ∷ Size ∷ Places at (length text) ∷ [])
  unfolding whole.roll-Pred denote.Hole.Carrier.roll
  readings-BytesAre path at text = fold-roll-Pred Read (readings_of t) (atom.BytesAre path at text)

  pub readings-AttrIs : (path : List (List ℕ)) (key : List ℕ) (value : ℕ) → readings t (pred.AttrIs path key value) ≡ at_slot (slot_number t path) (Name ∷ key_part (text_number t.keys key))
  unfolding whole.roll-Pred denote.Hole.Carrier.roll
  readings-AttrIs path key value = fold-roll-Pred Read (readings_of t) (atom.AttrIs path key value)

  pub readings-Seen : (word : List ℕ) → readings t (pred.Seen word) ≡ []
  unfolding whole.roll-Pred denote.Hole.Carrier.roll
  readings-Seen word = fold-roll-Pred Read (readings_of t) (atom.Seen word)

  pub readings-Not : (p : Pred) → readings t (pred.Not p) ≡ readings t p
  unfolding whole.roll-Pred denote.Hole.Carrier.roll
  readings-Not p = fold-roll-Pred Read (readings_of t) (atom.Not p)

  pub readings-And : (p q : Pred) → readings t (pred.And p q) ≡ readings t p ++ readings t q
  unfolding whole.roll-Pred denote.Hole.Carrier.roll
  readings-And p q = fold-roll-Pred Read (readings_of t) (atom.And p q)

  pub readings-Or : (p q : Pred) → readings t (pred.Or p q) ≡ readings t p ++ readings t q
  unfolding whole.roll-Pred denote.Hole.Carrier.roll
  readings-Or p q = fold-roll-Pred Read (readings_of t) (atom.Or p q)
