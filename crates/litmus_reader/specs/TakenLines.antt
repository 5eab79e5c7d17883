-- Private: what becomes of a draft that takes one more statement.
use Rattle.std.specs.Prelude.{ℕ, List, [], ◌∷◌, ◌++◌}
use Rattle.line_files.specs.StatedLines.{stated_in, statements}
use Rattle.line_files.specs.FirstFaults.{IsFirst}
use Rattle.litmus_reader.specs.declared.fault.LitmusKind.{LitmusKind}
use Rattle.litmus_reader.specs.declared.draft.Draft.{Draft}
use Rattle.litmus_reader.specs.Statements.{Statement}
use Rattle.litmus_reader.specs.StatedLines.{Stated}
use Rattle.litmus_reader.specs.Faults.{Has}
use Rattle.litmus_reader.specs.LitmusText.{kinds}
use Rattle.litmus_reader.specs.Drafts.{IsDraft}

-- a statement without a fault
abbrev pub IsFaultless : List Statement → Statement → Type 0
IsFaultless before s = (kind : LitmusKind) → Has before s kind → ⊥

-- the first kind of fault that a statement has
abbrev pub IsFirstKind : List Statement → Statement → LitmusKind → Type 0
IsFirstKind before s kind = IsFirst (Has before s) kinds kind

-- one more line was taken: its statement has no fault, and the draft keeps it too
pub record IsTaken (stated : List Stated) (line : ℕ) (s : Statement) (d : Draft) : Type 0 where
  pub faultless : IsFaultless (statements stated) s
  pub kept : IsDraft (stated ++ stated_in line s ∷ []) d
