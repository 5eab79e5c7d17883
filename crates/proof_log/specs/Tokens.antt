-- Private: what stands at the front of the rest of a line.
use Rattle.std.specs.Prelude.{◌≡◌, ℕ, ◌≤◌, List, ◌∷◌, ◌++◌, decimal}
use Rattle.clause_store.specs.declared.Lit.{Lit}
use Rattle.numerals.specs.Spans.{is_decimal_digit, StartsNot}
use Rattle.proof_log.specs.LogText.{sign}
use Rattle.proof_log.specs.LogFiles.{IsNumber}

-- a literal, whose variable these digits write, and a space behind it
pub record BeginsLiteral (line : List ℕ) (l : Lit) (digits rest : List ℕ) : Type 0 where
  pub spelled : line ≡ sign l.positive ++ digits ++ 32 ∷ rest
  pub number : IsNumber digits l.var

-- a space and a number of 32 bits, behind which there is no digit
pub record BeginsNumber (line : List ℕ) (n : ℕ) (rest : List ℕ) : Type 0 where
  pub spelled : line ≡ 32 ∷ decimal n ++ rest
  pub narrow : n ≤ 4294967295
  pub ends : StartsNot is_decimal_digit rest
