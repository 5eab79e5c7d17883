use Rattle.clause_store.proofs.InTurn.{derived-refuted}
use Rattle.rup_checker.proofs.laws.accepted_logs_refute.Goals as goal

pub returns : goal.returns
returns c = λ formula log values a. derived-refuted formula.clauses log.part.learned values a.follow a.empty
