-- The first bad line of a file, and which of its faults is answered.
use Rattle.std.specs.Prelude.{◌≡◌, ◌≢◌, ◌⊎◌, ℕ, ◌+◌, List, [], ◌∷◌, ◌++◌, length, All}
use Rattle.text_scan.specs.declared.scanning.ScanError.TheVariants.{BadByte, BadToken}
use Rattle.text_scan.specs.Faults.{IsFault}
use Rattle.lexeme_reader.specs.declared.reading.Lexeme.{Lexeme}
use Rattle.lexeme_reader.specs.Lexemes.{AreLexemes}
use Rattle.line_files.specs.declared.fault.SharedFault.TheVariants as shared
use Rattle.line_files.specs.Grammars.{Grammar}
use Rattle.line_files.specs.StatedLines.{Stated, AreStated, statements}

-- the first of these kinds for which a fact holds
abbrev pub IsFirst : {K : Type 0} → (K → Type 0) → List K → K → Type 0
IsFirst Holds kinds kind =
    (tried others : List _) × (kinds ≡ tried ++ kind ∷ others) × All (λ other. Holds other → ⊥) tried × Holds kind

-- a line of these tokens has no fault behind those statements
abbrev pub IsSound : {S K : Type 0} → Grammar S K → List S → List Lexeme → Type 0
IsSound g before lexemes = (kind : _) → g.Has before lexemes kind → ⊥

-- lines without a fault: each statement is sound behind those before it
abbrev pub AreSound : {S K : Type 0} → Grammar S K → List (Stated S) → Type 0
AreSound g stated =
    (before behind : List (Stated _)) (s : Stated _) → stated ≡ before ++ s ∷ behind
    → IsSound g (statements before) (g.lexemes_of s.statement)

-- the fault of a line behind those statements: a bad byte, a bad token, or else the first kind of fault that its tokens
-- have; a line without tokens has none
abbrev pub IsLineFault : {S K : Type 0} → Grammar S K → List S → List ℕ → K → Type 0
IsLineFault g before line kind =
    (IsFault line BadByte × (kind ≡ g.shared_kind shared.BadByte))
    ⊎ (IsFault line BadToken × (kind ≡ g.shared_kind shared.BadToken))
    ⊎ ((lexemes : List Lexeme) × AreLexemes line lexemes × (lexemes ≢ []) × IsFirst (g.Has before lexemes) g.kinds kind)

-- the first bad line, and the kind of its fault
pub record IsFirstFault {S K : Type 0} (g : Grammar S K) (lines : List (List ℕ)) (number : ℕ) (kind : K) : Type 0 where
  pub before : List (List ℕ)
  pub line : List ℕ
  pub behind : List (List ℕ)
  pub stated : List (Stated S)
  pub cut : lines ≡ before ++ line ∷ behind
  pub counted : number ≡ length before + 1
  pub read : AreStated g.lexemes_of 1 before stated
  pub sound : AreSound g stated
  pub bad : IsLineFault g (statements stated) line kind
