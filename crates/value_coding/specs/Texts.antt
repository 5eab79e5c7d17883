-- What a value says of a text.
use Rattle.std.specs.Prelude.{ℕ, Bool, false, List, bytes_eq}
use Rattle.value_coding.specs.Cells.{Value, Filled}

-- the bytes that a segment is filled with are the text
abbrev pub is_text : List ℕ → Value → Bool
is_text text (Filled bytes) = bytes_eq bytes text
is_text text value = false
