-- What the items of a text are, and the bytes that a text stands for.
use Rattle.std.specs.Prelude.{◌≡◌, ℕ, ◌+◌, ◌-◌, ◌*◌, Bool, ◌&&◌, not, ◌==◌, nat_le, if◌then◌else◌, List, [], ◌∷◌, ◌++◌, Option, Some, None, IsTrue}
use Rattle.text_scan.specs.Bytes.{is_hex_digit, is_line_byte}

-- a byte that stands for itself in a text: a tab, or from 0x20 to 0x7E other than `"` and `\`
abbrev pub is_plain : ℕ → Bool
is_plain b = is_line_byte b && not (b == 34) && not (b == 92)

-- what a byte behind a backslash stands for: `\\` a backslash, `\"` a quote, `\n` a line feed
abbrev pub escaped : ℕ → Option ℕ
escaped b = if b == 92 then Some 92 else (if b == 34 then Some 34 else (if b == 110 then Some 10 else None))

-- the value of a hexadecimal digit of either case
abbrev pub hex_value : ℕ → ℕ
hex_value b = if nat_le b 57 then b - 48 else (if nat_le b 70 then b - 55 else b - 87)

-- the written bytes are an item, which stands for this byte
pub data IsItem (written : List ℕ) (byte : ℕ) : Type 0 where
  plain : IsTrue (is_plain byte) → written ≡ byte ∷ [] → IsItem written byte
  short : (b : ℕ) → escaped b ≡ Some byte → written ≡ 92 ∷ b ∷ [] → IsItem written byte
  hex : (a b : ℕ) → IsTrue (is_hex_digit a) → IsTrue (is_hex_digit b) → byte ≡ 16 * hex_value a + hex_value b
      → written ≡ 92 ∷ 120 ∷ a ∷ b ∷ [] → IsItem written byte

-- items, which stand for these bytes one by one, and then the closing quote
abbrev pub Spells : List ℕ → List ℕ → Type 0
Spells written [] = written ≡ 34 ∷ []
Spells written (byte ∷ bytes) = (item rest : List ℕ) × (written ≡ item ++ rest) × IsItem item byte × Spells rest bytes

-- a text in its quotes, and the bytes that it stands for
abbrev pub IsTextOf : List ℕ → List ℕ → Type 0
IsTextOf text bytes = (written : List ℕ) × (text ≡ 34 ∷ written) × Spells written bytes

-- a text in its quotes, whatever it stands for
abbrev pub IsText : List ℕ → Type 0
IsText text = (bytes : List ℕ) × IsTextOf text bytes
