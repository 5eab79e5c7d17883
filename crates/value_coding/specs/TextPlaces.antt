-- Private: a text compared with a content byte by byte. Only the contracts of private functions cite it.
use Rattle.std.specs.Prelude.{ℕ, ◌+◌, Bool, true, ◌&&◌, ◌==◌, List, [], ◌∷◌, slice_index}

-- the content has the text at a place, where what stands behind its end is zero
abbrev pub has_from : List ℕ → ℕ → List ℕ → Bool
has_from content at [] = true
has_from content at (byte ∷ text) = (slice_index content at == byte) && has_from content (at + 1) text
