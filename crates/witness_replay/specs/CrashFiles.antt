-- Which bytes are a crash file, and of which crash. People may write such a file, with more spaces and zeros than Ferrite
-- prints.
use Rattle.std.specs.Prelude.{◌≡◌, ◌⊎◌, ℕ, ◌<◌, ◌≤◌, List, [], ◌∷◌, ◌++◌, length, All, codes}
use Rattle.text_scan.specs.Lines.{lines_of}
use Rattle.numerals.specs.Numbers.{IsDecimal}
use Rattle.fer_events.specs.declared.event.Crash.{Crash}

-- one or more spaces
abbrev pub AreSpaces : List ℕ → Type 0
AreSpaces bytes = (0 < length bytes) × All (λ b. b ≡ 32) bytes

-- numbers, each with spaces before it
pub data AreNumbers : List ℕ → List ℕ → Type 0 where
  none : AreNumbers [] []
  more : (spaces digits rest : List ℕ) (n : ℕ) (ns : List ℕ) → AreSpaces spaces → IsDecimal digits n → AreNumbers rest ns
      → AreNumbers (spaces ++ digits ++ rest) (n ∷ ns)

-- the line of a crash: the word `order`, numbers, a bar with spaces before it, numbers; the numbers are the order, and the
-- cut is how many stand before the bar
pub record IsCrashLine (line : List ℕ) (crash : Crash) : Type 0 where
  pub before : List ℕ
  pub gap : List ℕ
  pub behind : List ℕ
  pub reached : List ℕ
  pub left : List ℕ
  pub spelled : line ≡ codes "order" ++ before ++ gap ++ codes "|" ++ behind
  pub numbers_before : AreNumbers before reached
  pub spaces : AreSpaces gap
  pub numbers_behind : AreNumbers behind left
  pub order : crash.order ≡ reached ++ left
  pub cut : crash.cut ≡ length reached

-- the bytes have this line, and perhaps the line `allowed` before it, and nothing else
abbrev pub IsLineOf : List ℕ → List ℕ → Type 0
IsLineOf bytes line = (lines_of bytes ≡ line ∷ []) ⊎ (lines_of bytes ≡ codes "allowed" ∷ line ∷ [])

-- the bytes are a crash file: at most 4,096 of them, with the line of the crash
pub record IsCrashText (bytes : List ℕ) (crash : Crash) : Type 0 where
  pub short : length bytes ≤ 4096
  pub line : List ℕ
  pub of_bytes : IsLineOf bytes line
  pub reads : IsCrashLine line crash
