-- Which bytes are a file of a grammar of lines, and where and for what others are refused.
use Rattle.std.specs.Prelude.{◌≡◌, ◌⊎◌, ℕ, ◌+◌, ◌<◌, ◌≤◌, List, length}
use Rattle.std.specs.List.{Contains}
use Rattle.text_scan.specs.Lines.{lines_of}
use Rattle.line_files.specs.declared.fault.SharedFault.TheVariants.{EndsEarly, TooLong}
use Rattle.line_files.specs.Grammars.{Grammar}
use Rattle.line_files.specs.StatedLines.{Stated, AreStated}
use Rattle.line_files.specs.FirstFaults.{AreSound, IsFirstFault}

-- the bytes are a file whose statements make this, by what the statements of a whole file make
abbrev pub IsText : {S K R : Type 0} → Grammar S K → (List (Stated S) → R → Type 0) → List ℕ → R → Type 0
IsText g Makes bytes made =
    (length bytes ≤ 65536) × (stated : List (Stated _)) × AreStated g.lexemes_of 1 (lines_of bytes) stated × Makes stated made

-- no statement ends the file
abbrev pub IsUnended : {S K : Type 0} → Grammar S K → List (Stated S) → Type 0
IsUnended g stated = (s : Stated _) → Contains stated s → g.Ends s.statement → ⊥

-- no line is bad, and none ends the file; answered behind the last line
pub record IsCutShort {S K : Type 0} (g : Grammar S K) (lines : List (List ℕ)) (number : ℕ) : Type 0 where
  pub stated : List (Stated S)
  pub read : AreStated g.lexemes_of 1 lines stated
  pub sound : AreSound g stated
  pub unended : IsUnended g stated
  pub counted : number ≡ length lines + 1

-- the bytes are refused at this line, for a fault of this kind; line 0 is the whole file, which may be too long
abbrev pub IsRefused : {S K : Type 0} → Grammar S K → List ℕ → ℕ → K → Type 0
IsRefused g bytes number kind =
    ((65536 < length bytes) × (number ≡ 0) × (kind ≡ g.shared_kind TooLong))
    ⊎ ((length bytes ≤ 65536) × IsFirstFault g (lines_of bytes) number kind)
    ⊎ ((length bytes ≤ 65536) × IsCutShort g (lines_of bytes) number × (kind ≡ g.shared_kind EndsEarly))
