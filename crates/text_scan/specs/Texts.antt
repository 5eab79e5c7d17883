-- Where a text ends.
use Rattle.std.specs.Prelude.{ℕ, ◌+◌, ◌==◌, if◌then◌else◌, List, [], ◌∷◌}

-- how many bytes a text takes behind its opening `"`: single bytes, a backslash always with the byte after it,
-- up to and including the next `"`, or all bytes where there is none
abbrev pub text_len : List ℕ → ℕ
text_len [] = 0
text_len (b ∷ []) = 1
text_len (b ∷ c ∷ bs) = if b == 34 then 1 else (if b == 92 then 2 + text_len bs else 1 + text_len (c ∷ bs))
