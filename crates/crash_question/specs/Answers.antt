-- What a question may be answered with, and why a search may say so.
use Rattle.std.specs.Prelude.{◌≡◌, ℕ, ◌≤◌, Bool, true, false, List, [], ◌++◌, length, drop}
use Rattle.std.specs.List.Sorted.{IsStrictlyIncreasing}
use Rattle.litmus_syntax.specs.declared.pred.Pred.{Pred}
use Rattle.clause_store.specs.declared.Lit.{Lit}
use Rattle.clause_store.specs.Clauses.{Formula}
use Rattle.clause_store.specs.Propagation.{Follows}
use Rattle.cdcl_core.specs.Answering.{AreLessons}
use Rattle.fer_events.specs.declared.event.Crash.{Crash}
use Rattle.fer_events.specs.Tables.{Trace}
use Rattle.fer_events.specs.Witness.{IsWitness}
use Rattle.predicate_coding.specs.Coding.{coding}
use Rattle.proof_log.specs.Logs.{Derivation}
use Rattle.crash_question.specs.declared.asking.Answer.{Answer}
use Rattle.crash_question.specs.declared.asking.Answer.TheVariants.{Allowed, Forbidden, Spent}

-- the lessons show that no values make the clauses true: each follows from the clauses and the lessons before it and is
-- new to them, and the empty clause follows from all
pub record IsRefutedBy (clauses lessons : List (List Lit)) : Type 0 where
  pub learned : AreLessons clauses lessons
  pub refuted : Follows (clauses ++ lessons) []

-- the lessons leave open whether some values make the clauses true: the empty clause doesn't follow yet
pub record IsOpenAfter (clauses lessons : List (List Lit)) : Type 0 where
  pub learned : AreLessons clauses lessons
  pub undecided : Follows (clauses ++ lessons) [] → ⊥

-- the part is of a log of this formula: it says how many variables and clauses the formula has
pub record IsPartOf (f : Formula) (part : Derivation) : Type 0 where
  pub vars : part.vars ≡ f.vars
  pub clauses : part.clauses ≡ length f.clauses

-- the part refutes the formula: the empty clause ends it
pub record IsRefutation (f : Formula) (part : Derivation) : Type 0 where
  pub of : IsPartOf f part
  pub closed : part.closed ≡ true
  pub refutes : IsRefutedBy f.clauses part.learned

-- the part leaves the formula open
pub record IsOpenPart (f : Formula) (part : Derivation) : Type 0 where
  pub of : IsPartOf f part
  pub unclosed : part.closed ≡ false
  pub leaves : IsOpenAfter f.clauses part.learned

-- what an answer to a question says, where at most `limit` clauses may be learned.
-- Allowed: the crash keeps the pairs and leaves the predicate as wanted, and the events behind its cut ascend.
-- Forbidden: no crash does, and a part within the limit refutes the question's clauses.
-- Spent: a part of as many clauses as allowed leaves the question's clauses open
abbrev pub IsAnswerTo : Trace → List (ℕ × ℕ) → Pred → Bool → ℕ → Answer → Type 0
IsAnswerTo t kept pred want limit (Allowed crash) =
    IsWitness t kept pred want crash × IsStrictlyIncreasing (drop crash.cut crash.order)
IsAnswerTo t kept pred want limit (Forbidden part) =
    ((crash : Crash) → IsWitness t kept pred want crash → ⊥)
    × IsRefutation (coding t kept pred want) part × (length part.learned ≤ limit)
IsAnswerTo t kept pred want limit (Spent part) = IsOpenPart (coding t kept pred want) part × (length part.learned ≡ limit)
