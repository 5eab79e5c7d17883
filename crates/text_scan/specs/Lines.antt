-- The lines of a file.
use Rattle.std.specs.Prelude.{ℕ, Bool, false, ◌&&◌, ◌==◌, if◌then◌else◌, List, [], ◌∷◌}
use Rattle.std.specs.List.{onto_first}

-- a line feed comes first
abbrev pub feed_is_first : List ℕ → Bool
feed_is_first [] = false
feed_is_first (b ∷ bs) = b == 10

-- the lines of a file: a line feed ends a line, one carriage return directly before it belongs to the
-- line's end, and a last line may lack the line feed
abbrev pub lines_of : List ℕ → List (List ℕ)
lines_of [] = []
lines_of (b ∷ bs) =
    if b == 10 then [] ∷ lines_of bs
    else (if b == 13 && feed_is_first bs then lines_of bs
    else onto_first b (lines_of bs))
