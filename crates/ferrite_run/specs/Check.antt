-- What `check` answers and keeps.
use Rattle.std.specs.Prelude.{◌≡◌, ℕ, List, [], drop, length, Option, Some, None, option_map}
use Rattle.std.specs.List.Sorted.{IsStrictlyIncreasing}
use Rattle.clause_store.specs.Clauses.{Formula}
use Rattle.fer_events.specs.declared.event.Crash.{Crash}
use Rattle.fer_events.specs.Witness.{IsWitness}
use Rattle.predicate_coding.specs.Coding.{coding}
use Rattle.proof_log.specs.Logs.{Derivation, IsDerivation, Logged}
use Rattle.proof_log.specs.LogText.{log_text}
use Rattle.crash_question.specs.Answers.{IsRefutation, IsOpenPart}
use Rattle.command_line.specs.declared.commands.SearchOptions.{SearchOptions}
use Rattle.report.specs.Answers.{Allowed, Forbidden, Unknown}
use Rattle.ferrite_run.specs.declared.question.Question.{Question}
use Rattle.ferrite_run.specs.Done.{Done, only}

-- the crash keeps what has to be kept, and it answers the question
abbrev pub Shows : Question → Crash → Type 0
Shows q crash = IsWitness q.events q.pairs.pairs q.litmus.pred q.litmus.want crash

-- some crash answers the question
abbrev pub IsAllowed : Question → Type 0
IsAllowed q = (crash : Crash) × Shows q crash

-- the events that the crash kept from the disk stand in program order
abbrev pub RestAscends : Crash → Type 0
RestAscends crash = IsStrictlyIncreasing (drop crash.cut crash.order)

-- the question as clauses
abbrev pub formula_of : Question → Formula
formula_of q = coding q.events q.pairs.pairs q.litmus.pred q.litmus.want

-- the log of these clauses, which is made without any syncs
abbrev pub plain_log : Derivation → Logged
plain_log part = record { kind = None; sites = []; part = part; question = None }

-- a log's text, under the name that is given for it, if one is
abbrev pub kept_log : Option (List ℕ) → Logged → Option (List ℕ × List ℕ)
kept_log name log = option_map (λ n. (n, log_text log)) name

-- a crash answers the question, and it is shown; or none does, which is shown by a log that refutes the question's clauses; or
-- as many clauses as allowed were learned, and the log of them leaves the question's clauses open
pub data IsChecked (q : Question) (search : SearchOptions) (done : Done) : Type 0 where
  allowed : (crash : Crash) → Shows q crash → RestAscends crash → done ≡ only (Allowed crash) → IsChecked q search done
  forbidden :
      (IsAllowed q → ⊥) → (part : Derivation) → IsDerivation part → IsRefutation (formula_of q) part
      → done ≡ record { answer = Forbidden; kept = kept_log search.log (plain_log part) } → IsChecked q search done
  unknown :
      (limit : ℕ) → search.conflicts ≡ Some limit → (part : Derivation) → IsDerivation part → IsOpenPart (formula_of q) part
      → length part.learned ≡ limit → done ≡ record { answer = Unknown limit; kept = kept_log search.log (plain_log part) } → IsChecked q search done
