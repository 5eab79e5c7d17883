-- Private: what the reader of logs has found.
use Rattle.std.specs.Prelude.{◌≡◌, ◌⊎◌, ℕ, ◌-◌, ◌≤◌, Bool, true, false, List, ◌++◌, length, get_or, Option, None, Some, IsSome, All, if◌then◌else◌}
use Rattle.std.specs.List.{Contains}
use Rattle.numerals.specs.Numbers.{numbers_text}
use Rattle.clause_store.specs.declared.Lit.{Lit}
use Rattle.clause_store.specs.Clauses.{InVars}
use Rattle.proof_log.specs.declared.fault.LogKind.{LogKind}
use Rattle.proof_log.specs.declared.fault.LogKind.TheVariants.{BadLine, BadLiteral}
use Rattle.proof_log.specs.declared.draft.Draft.{Draft}
use Rattle.proof_log.specs.LogText.{clause_line}
use Rattle.proof_log.specs.LogFiles.{AreLiterals, HasBadLiteral}
use Rattle.proof_log.specs.Stages.{Stage, AreSites, Steps, IsLineFault}
use Rattle.proof_log.specs.Stages.Stage.{within, ended}

-- how far the draft is read
abbrev pub stage_of : Draft → Stage
stage_of d = if d.ended then ended d.log else within d.second d.log

-- the line is a clause whose literals are all of variables that are there
abbrev pub IsGoodClause : ℕ → List ℕ → List Lit → Type 0
IsGoodClause vars line lits = (line ≡ clause_line lits) × All (InVars vars) lits

-- what was found on a line where a clause may stand: a clause, or a fault
abbrev pub IsReadAs : ℕ → List ℕ → List Lit → Option LogKind → Type 0
IsReadAs vars line lits None = IsGoodClause vars line lits
IsReadAs vars line lits (Some kind) =
    ((others : List Lit) → IsGoodClause vars line others → ⊥)
    × (((kind ≡ BadLine) × (HasBadLiteral vars line → ⊥)) ⊎ ((kind ≡ BadLiteral) × HasBadLiteral vars line))

-- the line was taken, or refused for a fault
abbrev pub TakesAs : Stage → List ℕ → Stage → Option LogKind → Type 0
TakesAs stage line next None = Steps stage line next
TakesAs stage line next (Some kind) = IsLineFault stage line kind

-- a log of the second version is made with syncs
abbrev pub IsDraft : Draft → Type 0
IsDraft d = d.second ≡ true → IsSome d.log.kind

-- the numbers of syncs that are read from the front of bytes, with the greatest of them, and the bytes behind them
pub record AreSitesSoFar (bytes sites : List ℕ) (last : ℕ) (rest : List ℕ) : Type 0 where
  pub are : AreSites sites
  pub greatest : last ≡ get_or sites (length sites - 1) 0
  pub spelled : bytes ≡ numbers_text sites ++ rest
  pub ahead : (all : List ℕ) → All (λ n. n ≤ 4294967295) all → bytes ≡ numbers_text all
      → (more : List ℕ) × (all ≡ sites ++ more) × (rest ≡ numbers_text more)

-- the literals that are read from the front of a line, bad ones among them, and what stands behind them; where none was bad,
-- they are those that are kept
pub record AreLiteralsSoFar (vars : ℕ) (line : List ℕ) (kept : List Lit) (is_bad : Bool) (rest : List ℕ) : Type 0 where
  pub text : List ℕ
  pub all : List Lit
  pub spelled : line ≡ text ++ rest
  pub literals : AreLiterals text all
  pub good : is_bad ≡ false → (kept ≡ all) × All (InVars vars) all
  pub bad : is_bad ≡ true → (l : Lit) × Contains all l × (InVars vars l → ⊥)
