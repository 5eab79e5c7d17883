-- Private: how the reader of crash files goes through a line.
use Rattle.std.specs.Prelude.{◌≡◌, ◌==◌, ℕ, Bool, List, ◌∷◌, ◌++◌}
use Rattle.numerals.specs.Numbers.{IsDecimal}
use Rattle.numerals.specs.Spans.{is_decimal_digit, StartsNot}
use Rattle.witness_replay.specs.CrashFiles.{AreSpaces, AreNumbers}

-- which bytes are spaces
abbrev pub is_space : ℕ → Bool
is_space b = b == 32

-- the bytes begin with spaces and a number, behind which there is no digit
pub record BeginsNumber (bytes : List ℕ) (n : ℕ) (rest : List ℕ) : Type 0 where
  pub spaces : List ℕ
  pub digits : List ℕ
  pub spelled : bytes ≡ spaces ++ digits ++ rest
  pub parted : AreSpaces spaces
  pub decimal : IsDecimal digits n
  pub ends : StartsNot is_decimal_digit rest

-- the bytes begin with these numbers
pub record HasNumbers (bytes : List ℕ) (ns rest : List ℕ) : Type 0 where
  pub text : List ℕ
  pub spelled : bytes ≡ text ++ rest
  pub numbers : AreNumbers text ns
  pub ends : StartsNot is_decimal_digit bytes → StartsNot is_decimal_digit rest

-- the bytes begin with these numbers, and then with none
abbrev pub BeginsNumbers : List ℕ → List ℕ → List ℕ → Type 0
BeginsNumbers bytes ns rest = HasNumbers bytes ns rest × ((n : ℕ) (behind : List ℕ) → BeginsNumber rest n behind → ⊥)

-- the bytes begin with spaces and a bar
abbrev pub BeginsBar : List ℕ → List ℕ → Type 0
BeginsBar bytes behind = (gap : List ℕ) × (bytes ≡ gap ++ 124 ∷ behind) × AreSpaces gap
