-- How a write is cut: its pieces reach the disk one by one.
use Rattle.std.specs.Prelude.{ℕ, ◌+◌, ◌%◌, Bool, ◌||◌, ◌==◌, if◌then◌else◌, List, [], ◌∷◌}
use Rattle.call_events.specs.declared.making.Sizes.{Sizes}

-- a piece of a text, with the place of its first byte
pub record Piece : Type 0 where
  pub at : ℕ
  pub text : List ℕ

-- a block or a sector begins at this place
abbrev pub begins_there : Sizes → ℕ → Bool
begins_there sizes place = (place % sizes.block == 0) || (place % sizes.sector == 0)

-- a byte in front of the first of the pieces
abbrev pub onto_first : ℕ → ℕ → List Piece → List Piece
onto_first at b [] = record { at = at; text = b ∷ [] } ∷ []
onto_first at b (piece ∷ pieces) = record { at = at; text = b ∷ piece.text } ∷ pieces

-- the pieces of a text that is written at a place: a new one begins wherever a block or a sector does
abbrev pub cut_up : Sizes → ℕ → List ℕ → List Piece
cut_up sizes at [] = []
cut_up sizes at (b ∷ bs) =
    if begins_there sizes (at + 1)
    then record { at = at; text = b ∷ [] } ∷ cut_up sizes (at + 1) bs
    else onto_first at b (cut_up sizes (at + 1) bs)
