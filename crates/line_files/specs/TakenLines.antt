-- What becomes of the lines of a file, one after the other, where something keeps what they state.
use Rattle.std.specs.Prelude.{◌⊎◌, ℕ, List, [], ◌∷◌, ◌++◌}
use Rattle.lexeme_reader.specs.Lexemes.{AreLexemes}
use Rattle.line_files.specs.Grammars.{Grammar}
use Rattle.line_files.specs.StatedLines.{Stated, AreStated, stated_in, statements}
use Rattle.line_files.specs.FirstFaults.{IsSound, AreSound}

-- these lines state things that are all sound, and they are kept
pub record AreTaken {S K : Type 0} (g : Grammar S K) (Keeps : List (Stated S) → Type 0) (lines : List (List ℕ)) : Type 0 where
  pub stated : List (Stated S)
  pub read : AreStated g.lexemes_of 1 lines stated
  pub sound : AreSound g stated
  pub kept : Keeps stated

-- a line behind those that state this: it is blank, and no more is kept, or it states one thing more, which is sound
abbrev pub IsTaken : {S K : Type 0} → Grammar S K → (List (Stated S) → Type 0) → List (Stated S) → ℕ → List ℕ → Type 0
IsTaken g Keeps stated number line =
    (AreLexemes line [] × Keeps stated)
    ⊎ ((s : _) × AreLexemes line (g.lexemes_of s) × IsSound g (statements stated) (g.lexemes_of s)
    × Keeps (stated ++ stated_in number s ∷ []))
