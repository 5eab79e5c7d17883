-- When a log is accepted over a formula, and at which line, and for what, it is refused.
use Rattle.std.specs.Prelude.{◌≡◌, ℕ, ◌+◌, true, false, List, [], ◌∷◌, ◌++◌, length, take, slice_get, Option, None, Some, nat_le, if◌then◌else◌}
use Rattle.clause_store.specs.declared.Lit.{Lit}
use Rattle.clause_store.specs.Clauses.{Formula}
use Rattle.clause_store.specs.Propagation.{Follows}
use Rattle.clause_store.specs.Derivations.{EachFollows}
use Rattle.proof_log.specs.Logs.{Derivation, Logged}
use Rattle.rup_checker.specs.declared.judgement.Judgement.{Judgement}
use Rattle.rup_checker.specs.declared.judgement.Judgement.TheVariants.{Accepted, Refused}
use Rattle.rup_checker.specs.declared.judgement.JudgeKind.{JudgeKind}
use Rattle.rup_checker.specs.declared.judgement.JudgeKind.TheVariants.{OtherFormula, NotRup, NoEmptyClause}

-- the line, counted from 1, of a log's clause of this number, counted from 0: three lines stand before the clauses, and the
-- line `question` stands before those from its place on. For the number of all clauses it is the line behind them
abbrev pub line_behind : Option ℕ → ℕ → ℕ
line_behind None number = number + 4
line_behind (Some before) number = if nat_le before number then number + 5 else number + 4

abbrev pub line_of_clause : Logged → ℕ → ℕ
line_of_clause log number = line_behind log.question number

-- the log is made for a formula with as many variables and clauses
abbrev pub IsFor : Formula → Logged → Type 0
IsFor formula log = (log.part.vars ≡ formula.vars) × (log.part.clauses ≡ length formula.clauses)

-- the clauses of a log, with the empty one behind them where it ends them
abbrev pub all_clauses : Derivation → List (List Lit)
all_clauses part = if part.closed then part.learned ++ [] ∷ [] else part.learned

-- the log is made for such a formula, each of its clauses follows from the formula and those before it, and in the end the
-- empty clause, which ends the log
pub record IsAccepted (formula : Formula) (log : Logged) : Type 0 where
  pub made_for : IsFor formula log
  pub follow : EachFollows formula.clauses log.part.learned
  pub closed : log.part.closed ≡ true
  pub empty : Follows (formula.clauses ++ log.part.learned) []

-- the log is made for such a formula, and each of its clauses follows from the formula and those before it, but the empty
-- clause neither ends the log nor follows
pub record IsOpenLog (formula : Formula) (log : Logged) : Type 0 where
  pub made_for : IsFor formula log
  pub follow : EachFollows formula.clauses log.part.learned
  pub unclosed : log.part.closed ≡ false
  pub short : Follows (formula.clauses ++ log.part.learned) [] → ⊥

-- the clause of this number is the first of the list that doesn't follow from the given ones and those before it
abbrev pub IsFirstWrong : List (List Lit) → List (List Lit) → ℕ → Type 0
IsFirstWrong given clauses number =
    (clause : List Lit) × (slice_get clauses number ≡ Some clause) × EachFollows given (take number clauses)
    × (Follows (given ++ take number clauses) clause → ⊥)

-- why, and at which line, a log is refused: it is made for another formula, which its third line says; one of its clauses
-- doesn't follow, in the line of the first one; or all follow, but the line behind them isn't the empty clause
abbrev pub IsRefused : Formula → Logged → ℕ → JudgeKind → Type 0
IsRefused formula log line OtherFormula = (line ≡ 3) × (IsFor formula log → ⊥)
IsRefused formula log line NotRup =
    (number : ℕ) × (line ≡ line_of_clause log number) × IsFor formula log
    × IsFirstWrong formula.clauses (all_clauses log.part) number
IsRefused formula log line NoEmptyClause =
    (line ≡ line_of_clause log (length log.part.learned)) × IsFor formula log
    × EachFollows formula.clauses log.part.learned × (log.part.closed ≡ false)

-- what is to be answered of a log over a formula
abbrev pub IsJudged : Formula → Logged → Judgement → Type 0
IsJudged formula log Accepted = IsAccepted formula log
IsJudged formula log (Refused line kind) = IsRefused formula log line kind
