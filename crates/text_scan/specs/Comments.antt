-- What stands in a line before its comment, and which bytes may not stand there.
use Rattle.std.specs.Prelude.{◌≡◌, ◌≢◌, ℕ, Bool, not, List, [], ◌∷◌, take, drop, IsTrue, ⊤}
use Rattle.std.specs.List.{list_any}
use Rattle.text_scan.specs.Bytes.{is_line_byte}
use Rattle.text_scan.specs.Texts.{text_len}

-- nothing stands here, or a comment begins
abbrev pub IsEnd : List ℕ → Type 0
IsEnd [] = ⊤
IsEnd (b ∷ bs) = b ≡ 35

-- the line is this part and the rest: the part is a byte other than `"` and `#`, or a text, closed or not
pub data IsPart (line part rest : List ℕ) : Type 0 where
  byte : (b : ℕ) → b ≢ 34 → b ≢ 35 → line ≡ b ∷ rest → part ≡ b ∷ [] → IsPart line part rest
  text : (behind : List ℕ) → line ≡ 34 ∷ behind → part ≡ 34 ∷ take (text_len behind) behind → rest ≡ drop (text_len behind) behind
      → IsPart line part rest

-- the line is these parts, one after the other, and then perhaps a comment
abbrev pub AreParts : List ℕ → List (List ℕ) → Type 0
AreParts line [] = IsEnd line
AreParts line (part ∷ parts) = (rest : List ℕ) × IsPart line part rest × AreParts rest parts

-- a byte that may stand in a comment alone: neither a tab nor from 0x20 to 0x7E
abbrev pub is_bad : ℕ → Bool
is_bad b = not (is_line_byte b)

-- such a byte stands before the line's comment, in a text or outside of texts
abbrev pub HasBadByte : List ℕ → Type 0
HasBadByte line = (parts : List (List ℕ)) × AreParts line parts × IsTrue (list_any (list_any is_bad) parts)
