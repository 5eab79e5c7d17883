-- From the judgement of a log over its formula to what is answered.
use Rattle.std.proofs.Common.{◌≡◌, Bool, List}
use Rattle.litmus_syntax.specs.declared.site.Site.{Site}
use Rattle.clause_store.specs.Clauses.{Formula}
use Rattle.clause_store.specs.Truth.{MakesAllTrue}
use Rattle.proof_log.specs.Logs.{Logged}
use Rattle.rup_checker.specs.Accepting.{IsAccepted}
use Rattle.sync_parts.specs.Reaching.{IsReachable}
use Rattle.report.specs.Answers.{Answer}
use Rattle.ferrite_run.specs.declared.question.Question.{Question}
use Rattle.ferrite_run.specs.Done.{Done, Tells}
use Rattle.ferrite_run.specs.Judging.{IsSatisfiable, IsJudgedOver}
use Rattle.ferrite_run.specs.Judging.IsJudgedOver.{good, wrong}
use Rattle.ferrite_run.specs.Verify.{IsAbout, IsVerified}
use Rattle.ferrite_run.specs.Verify.IsVerified.{accepted, refused}

module _ (q : Question) (log : Logged) (present : List Site) (f : Formula) (about : IsAbout q log present f)
    (refutes : (formula : Formula) (l : Logged) (values : List Bool) → IsAccepted formula l → MakesAllTrue values formula.clauses → ⊥)
    (reached : IsReachable q.litmus q.model present → IsSatisfiable f)
  where
    judged_verdict : (answer : Answer) → IsJudgedOver f log answer → IsVerified q log answer
    judged_verdict answer (good is e) = accepted present f about is (λ reach. let (values, all) = reached reach in refutes f log values is all) e
    judged_verdict answer (wrong line kind is e) = refused present f about line kind is e

    pub judged_done : (done : Done) → Tells (IsJudgedOver f log) done → Tells (IsVerified q log) done
    judged_done done (is, nothing) = (judged_verdict done.answer is, nothing)
