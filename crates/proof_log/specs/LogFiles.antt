-- Which bytes are a log, and of which log; and at which line, and for what, others are refused.
use Rattle.std.specs.Prelude.{◌≡◌, ℕ, ◌+◌, ◌<◌, ◌≤◌, List, [], ◌∷◌, ◌++◌, length, take, get_or, codes}
use Rattle.std.specs.List.{Contains}
use Rattle.std.specs.Str.Parse.{IsNumeral, digits_value}
use Rattle.text_scan.specs.Lines.{lines_of}
use Rattle.clause_store.specs.declared.Lit.{Lit}
use Rattle.clause_store.specs.Clauses.{InVars}
use Rattle.proof_log.specs.declared.fault.LogKind.{LogKind}
use Rattle.proof_log.specs.declared.fault.LogKind.TheVariants.{BadLine, BadLiteral, EndsEarly, TooLong}
use Rattle.proof_log.specs.Logs.{Logged, IsLog}
use Rattle.proof_log.specs.LogText.{sign, opening_lines, learned_lines, log_lines}

-- the bytes are the file of the log: at most 64 MiB, with the lines of the log, whatever line ends they have
pub record IsLogText (bytes : List ℕ) (l : Logged) : Type 0 where
  pub log : IsLog l
  pub short : length bytes ≤ 67108864
  pub spelled : lines_of bytes ≡ log_lines l

-- some log begins with these lines
abbrev pub IsFront : List (List ℕ) → Type 0
IsFront lines = (l : Logged) × (n : ℕ) × IsLog l × (lines ≡ take n (log_lines l))

-- a clause over so many variables may stand behind these lines
abbrev pub AwaitsClause : List (List ℕ) → ℕ → Type 0
AwaitsClause before vars =
    (l : Logged) × (n : ℕ) × IsLog l × (l.part.vars ≡ vars) × (before ≡ opening_lines l ++ take n (learned_lines l))

-- the decimal digits of a number of any width, without leading zeros
abbrev pub IsNumber : List ℕ → ℕ → Type 0
IsNumber digits n = IsNumeral 10 digits × (digits_value 10 digits ≡ n) × (get_or digits 0 0 ≡ 48 → length digits ≡ 1)

-- literals, each with a space behind it; a variable may here be any number, 0 included
pub data AreLiterals : List ℕ → List Lit → Type 0 where
  none : AreLiterals [] []
  more : (l : Lit) (digits rest : List ℕ) (lits : List Lit) → IsNumber digits l.var → AreLiterals rest lits
      → AreLiterals (sign l.positive ++ digits ++ 32 ∷ rest) (l ∷ lits)

-- a clause line, one of whose literals before the closing 0 isn't of a variable from 1 to `vars`
abbrev pub HasBadLiteral : ℕ → List ℕ → Type 0
HasBadLiteral vars line =
    (text : List ℕ) × (lits : List Lit) × (l : Lit) × (line ≡ text ++ codes "0") × AreLiterals text lits × Contains lits l
    × (InVars vars l → ⊥)

-- where a clause may stand, the line is one with a bad literal
abbrev pub IsBadClause : List (List ℕ) → List ℕ → Type 0
IsBadClause before line = (vars : ℕ) × AwaitsClause before vars × HasBadLiteral vars line

-- the first line that no log has at its place, what stands before it, and its number, counted from 1
pub record IsFirstBad (lines : List (List ℕ)) (number : ℕ) (before : List (List ℕ)) (line : List ℕ) : Type 0 where
  pub behind : List (List ℕ)
  pub cut : lines ≡ before ++ line ∷ behind
  pub counted : number ≡ length before + 1
  pub front : IsFront before
  pub bad : IsFront (before ++ line ∷ []) → ⊥

-- the bytes are refused at this line, for a fault of this kind: line 0 where they are too many; else the first bad line; or
-- the line behind the last, where no line is bad and there is no end
pub data IsLogRefused (bytes : List ℕ) (number : ℕ) : LogKind → Type 0 where
  too_long : 67108864 < length bytes → number ≡ 0 → IsLogRefused bytes number TooLong
  bad_literal : length bytes ≤ 67108864 → (before : List (List ℕ)) (line : List ℕ)
      → IsFirstBad (lines_of bytes) number before line → IsBadClause before line → IsLogRefused bytes number BadLiteral
  bad_line : length bytes ≤ 67108864 → (before : List (List ℕ)) (line : List ℕ)
      → IsFirstBad (lines_of bytes) number before line → (IsBadClause before line → ⊥) → IsLogRefused bytes number BadLine
  ends_early : length bytes ≤ 67108864 → IsFront (lines_of bytes)
      → ((l : Logged) → IsLog l → lines_of bytes ≡ log_lines l → ⊥) → number ≡ length (lines_of bytes) + 1
      → IsLogRefused bytes number EndsEarly
