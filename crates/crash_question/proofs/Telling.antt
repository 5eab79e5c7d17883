-- From what a search among a question's clauses ended with to the answer.
use Rattle.std.proofs.Common.{◌≡◌, ℕ, ◌<◌, ◌≤◌, Bool, List, [], ◌++◌, length, drop, subst}
use Rattle.std.specs.List.Sorted.{IsStrictlyIncreasing}
use Rattle.litmus_syntax.specs.declared.pred.Pred.{Pred}
use Rattle.clause_store.specs.declared.Lit.{Lit}
use Rattle.clause_store.specs.Clauses.{Formula}
use Rattle.clause_store.specs.Propagation.{Follows}
use Rattle.clause_store.specs.Derivations.{EachFollows}
use Rattle.clause_store.specs.Truth.{MakesAllTrue}
use Rattle.fer_events.specs.declared.event.Crash.{Crash}
use Rattle.fer_events.specs.Tables.{Trace}
use Rattle.fer_events.specs.Witness.{IsWitness}
use Rattle.order_coding.specs.Decoded.{IsDecoded, HasValues}
use Rattle.predicate_coding.specs.Coding.{coding}
use Rattle.crash_question.specs.declared.asking.Answer.TheVariants.{Allowed, Forbidden, Spent}
use Rattle.proof_log.specs.Logs.{Derivation}
use Rattle.crash_question.specs.Answers.{IsAnswerTo, IsRefutation, IsOpenPart}

module _ (t : Trace) (kept : List (ℕ × ℕ)) (pred : Pred) (want : Bool) (limit : ℕ) (f : Formula) where
  -- values were found
  pub told_allowed :
      ((values : List Bool) (crash : Crash) → MakesAllTrue values f.clauses → IsDecoded (length t.events) values crash
      → IsWitness t kept pred want crash × IsStrictlyIncreasing (drop crash.cut crash.order))
      → (values : List Bool) (crash : Crash) → MakesAllTrue values f.clauses → IsDecoded (length t.events) values crash
      → IsAnswerTo t kept pred want limit (Allowed crash)
  told_allowed sound values crash all decoded = sound values crash all decoded

  -- there are none
  pub told_forbidden :
      f ≡ coding t kept pred want → ((crash : Crash) → IsWitness t kept pred want crash → HasValues (length t.events) crash f)
      → ((given derived : List (List Lit)) (values : List Bool) → EachFollows given derived → Follows (given ++ derived) [] → MakesAllTrue values given → ⊥)
      → (part : Derivation) → IsRefutation f part × (length part.learned ≤ limit) → IsAnswerTo t kept pred want limit (Forbidden part)
  told_forbidden is complete refuted part (by, within) = (
    λ crash shows.
        let (values, long, describes, all) = complete crash shows in refuted f.clauses part.learned values by.refutes.learned.follow by.refutes.refuted all,
    subst (λ (g : Formula). IsRefutation g part) is by,
    within,
  )

  -- it is open
  pub told_spent :
      f ≡ coding t kept pred want → (part : Derivation) → IsOpenPart f part × (length part.learned ≡ limit) × (limit < 18446744073709551615)
      → IsAnswerTo t kept pred want limit (Spent part)
  told_spent is part (leaves, full, below) = (subst (λ (g : Formula). IsOpenPart g part) is leaves, full)
