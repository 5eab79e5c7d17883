-- What is kept of a search is a log.
use Rattle.std.proofs.Common.{refl, arith}
use Rattle.clause_store.specs.Clauses.{Formula}
use Rattle.proof_log.specs.Logs.{Derivation, IsDerivation, IsLog}
use Rattle.rup_checker.specs.Accepting.{IsAccepted, IsOpenLog}
use Rattle.crash_question.specs.Answers.{IsRefutation, IsOpenPart}
use Rattle.ferrite_run.specs.Check.{plain_log}

pub refuting_log : (f : Formula) (part : Derivation) → IsRefutation f part → IsAccepted f (plain_log part)
refuting_log f part is = record {
  made_for = (is.of.vars, is.of.clauses);
  follow = is.refutes.learned.follow;
  closed = is.closed;
  empty = is.refutes.refuted;
}

pub open_log : (f : Formula) (part : Derivation) → IsOpenPart f part → IsOpenLog f (plain_log part)
open_log f part is = record {
  made_for = (is.of.vars, is.of.clauses);
  follow = is.leaves.learned.follow;
  unclosed = is.unclosed;
  short = is.leaves.undecided;
}

-- a log without syncs keeps the rules where its clauses do
pub plain_rules : (part : Derivation) → IsDerivation part → IsLog (plain_log part)
plain_rules part rules = record {
  part = rules;
  ascending = λ k there. absurd (omega (arith, there));
  numbered = λ k d there. absurd (omega (arith, there));
  none = λ _. refl;
  asked = tt;
}
