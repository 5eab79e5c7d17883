-- Private: the formulas over which logs are judged, and what is answered to a log over one.
use Rattle.std.specs.Prelude.{◌≡◌, ℕ, Bool, List, length}
use Rattle.litmus_syntax.specs.declared.site.Site.{Site}
use Rattle.clause_store.specs.Clauses.{Formula}
use Rattle.clause_store.specs.Truth.{MakesAllTrue}
use Rattle.fer_events.specs.Pairs.{PairList}
use Rattle.fer_events.specs.Tables.{Trace}
use Rattle.call_events.specs.Resolved.{HasEvents}
use Rattle.predicate_coding.specs.Coding.{coding}
use Rattle.proof_log.specs.Logs.{Logged}
use Rattle.rup_checker.specs.declared.judgement.JudgeKind.{JudgeKind}
use Rattle.rup_checker.specs.Kinds.{kind_number}
use Rattle.rup_checker.specs.Accepting.{IsAccepted, IsRefused}
use Rattle.sync_repair.specs.Sets.{AreKept, AreKeptWith}
use Rattle.report.specs.Answers.{Answer, LogAccepted, LogRefused}
use Rattle.ferrite_run.specs.declared.question.Question.{Question}

-- some values make all clauses true
abbrev pub IsSatisfiable : Formula → Type 0
IsSatisfiable f = (values : List Bool) × MakesAllTrue values f.clauses

-- the formula is that of the question of the test with these sites
pub record IsSitedFormula (q : Question) (present : List Site) (f : Formula) : Type 0 where
  pub trace : Trace
  pub resolved : HasEvents q.litmus present trace
  pub kept : PairList
  pub are : AreKept q.model trace.events kept
  pub is : f ≡ coding trace kept.pairs q.litmus.pred q.litmus.want

-- the formula is that of the events with all sites, where the pairs are kept that are kept with those of the set
pub record IsLiftedFormula (q : Question) (sites : List Site) (set : List Bool) (f : Formula) : Type 0 where
  pub all : Trace
  pub resolved : HasEvents q.litmus sites all
  pub kept : PairList
  pub are : AreKeptWith q.litmus q.model sites set all kept
  pub is : f ≡ coding all kept.pairs q.litmus.pred q.litmus.want

-- the answer to a log that is accepted over the formula, or refused over it
pub data IsJudgedOver (f : Formula) (log : Logged) (answer : Answer) : Type 0 where
  good : IsAccepted f log → answer ≡ LogAccepted (length log.sites) → IsJudgedOver f log answer
  wrong : (line : ℕ) (kind : JudgeKind) → IsRefused f log line kind → answer ≡ LogRefused line (kind_number kind) → IsJudgedOver f log answer
