-- How numbers, paths and texts are written in the canonical text of a litmus test.
use Rattle.std.specs.Prelude.{ℕ, ◌+◌, ◌/◌, ◌%◌, ◌&&◌, ◌==◌, nat_le, if◌then◌else◌, List, [], ◌∷◌, ◌++◌, codes}
use Rattle.std.specs.List.{flat_map}

-- the components of a path, each behind a `/`; the root is `/` alone
abbrev pub path_text : List (List ℕ) → List ℕ
path_text [] = codes "/"
path_text (name ∷ names) = flat_map (λ part. 47 ∷ part) (name ∷ names)

-- a hexadecimal digit, in lower case
abbrev pub hex_digit : ℕ → ℕ
hex_digit value = if nat_le value 9 then 48 + value else 87 + value

-- a byte in a text: `\\`, `\"` and `\n` for a backslash, a quote and a line feed; other bytes from 0x20 to 0x7E as
-- they are; any further byte as `\x` and its two hexadecimal digits
abbrev pub byte_text : ℕ → List ℕ
byte_text b =
    if b == 92 then 92 ∷ 92 ∷ []
    else (if b == 34 then 92 ∷ 34 ∷ []
    else (if b == 10 then 92 ∷ 110 ∷ []
    else (if nat_le 32 b && nat_le b 126 then b ∷ []
    else 92 ∷ 120 ∷ hex_digit (b / 16) ∷ hex_digit (b % 16) ∷ [])))

-- a text in its quotes
abbrev pub quoted : List ℕ → List ℕ
quoted text = 34 ∷ flat_map byte_text text ++ 34 ∷ []
