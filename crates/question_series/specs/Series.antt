-- Questions about one list of events with one list of kept pairs after another: what they are about, what an answer says, and
-- what a log is made of.
use Rattle.std.specs.Prelude.{◌≡◌, ℕ, ◌+◌, Bool, List, [], ◌++◌, length, drop}
use Rattle.std.specs.List.Sorted.{IsStrictlyIncreasing}
use Rattle.litmus_syntax.specs.declared.pred.Pred.{Pred}
use Rattle.clause_store.specs.Propagation.{Follows}
use Rattle.clause_store.specs.Derivations.{EachFollows}
use Rattle.cdcl_core.specs.Answering.{Solving}
use Rattle.fer_events.specs.declared.event.Crash.{Crash}
use Rattle.fer_events.specs.Tables.{Trace}
use Rattle.fer_events.specs.Witness.{IsWitness}
use Rattle.predicate_coding.specs.Coding.{coding}
use Rattle.proof_log.specs.Logs.{Derivation}
use Rattle.crash_question.specs.Answers.{IsPartOf}
use Rattle.question_series.specs.declared.series.SeriesAnswer.{SeriesAnswer}
use Rattle.question_series.specs.declared.series.SeriesAnswer.TheVariants.{Allowed, Forbidden, Spent}

-- the variables and clauses are those of the question where no pair is kept
pub record IsAbout (s : Solving) (t : Trace) (pred : Pred) (want : Bool) : Type 0 where
  pub vars : s.vars ≡ (coding t [] pred want).vars
  pub clauses : s.clauses ≡ (coding t [] pred want).clauses

-- what was learned refutes the question where these pairs are kept: behind its clauses, the empty clause follows
abbrev pub IsRefuted : Solving → Trace → List (ℕ × ℕ) → Pred → Bool → Type 0
IsRefuted s t kept pred want = Follows ((coding t kept pred want).clauses ++ s.learned) []

-- what an answer to the question says where these pairs are kept and at most `limit` clauses may be learned for it.
-- Allowed: the crash keeps the pairs and leaves the predicate as wanted, and the events behind its cut ascend.
-- Forbidden: no crash does, and what was learned refutes the question.
-- Spent: as many clauses were learned as allowed, and they don't refute it yet
abbrev pub IsNextAnswer : Trace → List (ℕ × ℕ) → Pred → Bool → ℕ → Solving → Solving → SeriesAnswer → Type 0
IsNextAnswer t kept pred want limit old new (Allowed crash) =
    IsWitness t kept pred want crash × IsStrictlyIncreasing (drop crash.cut crash.order)
IsNextAnswer t kept pred want limit old new Forbidden =
    ((crash : Crash) → IsWitness t kept pred want crash → ⊥) × IsRefuted new t kept pred want
IsNextAnswer t kept pred want limit old new Spent =
    (length new.learned ≡ length old.learned + limit) × (IsRefuted new t kept pred want → ⊥)

-- all that was learned, as a part of a log of the question where these pairs are kept: each clause follows from the question's
-- and those before it
pub record IsPartUnder (s : Solving) (t : Trace) (kept : List (ℕ × ℕ)) (pred : Pred) (want closed : Bool) (part : Derivation) : Type 0 where
  pub of : IsPartOf (coding t kept pred want) part
  pub learned : part.learned ≡ s.learned
  pub is_closed : part.closed ≡ closed
  pub follow : EachFollows (coding t kept pred want).clauses part.learned
