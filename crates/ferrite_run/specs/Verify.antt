-- What `verify` answers.
use Rattle.std.specs.Prelude.{◌≡◌, ℕ, ◌<◌, Bool, List, [], length, None, Some, Contains}
use Rattle.litmus_syntax.specs.declared.site.Site.{Site}
use Rattle.litmus_syntax.specs.declared.site.SiteKind.{SiteKind}
use Rattle.clause_store.specs.Clauses.{Formula}
use Rattle.fer_events.specs.Pairs.{PairList}
use Rattle.fer_events.specs.Tables.{Trace}
use Rattle.call_events.specs.Resolved.{HasEvents}
use Rattle.predicate_coding.specs.Coding.{coding}
use Rattle.proof_log.specs.Logs.{Logged}
use Rattle.rup_checker.specs.declared.judgement.JudgeKind.{JudgeKind}
use Rattle.rup_checker.specs.Kinds.{kind_number}
use Rattle.rup_checker.specs.Accepting.{IsAccepted, IsRefused}
use Rattle.sync_sites.specs.SiteLists.{AreTooMany}
use Rattle.sync_parts.specs.Sites.{sites_present}
use Rattle.sync_parts.specs.Reaching.{IsReachable}
use Rattle.sync_repair.specs.Sets.{AreKept, AreKeptWith}
use Rattle.report.specs.Answers.{Answer, LogAccepted, LogRefused}
use Rattle.ferrite_run.specs.declared.question.Question.{Question}
use Rattle.ferrite_run.specs.Sites.{AreSitesOf}
use Rattle.ferrite_run.specs.Check.{formula_of}
use Rattle.ferrite_run.specs.Repair.{site_numbers}

-- the set has those of the test's sites that the log names
pub record IsNamed (q : Question) (log : Logged) (kind : SiteKind) (sites : List Site) (set : List Bool) : Type 0 where
  pub kind_is : log.kind ≡ Some kind
  pub all : AreSitesOf q kind sites
  pub full : length set ≡ length sites
  pub numbers : log.sites ≡ site_numbers set

-- the log says something of the test with these of its sites, over this formula. A plain log is made without any, over the
-- question's own formula. A sited one of the first version is made over the formula of the test with the sites that it names. One
-- of the second version is made over the formula of the events with all sites, where the pairs are kept that are kept with the
-- sites that it names
pub data IsAbout (q : Question) (log : Logged) (present : List Site) (f : Formula) : Type 0 where
  plain : log.kind ≡ None → present ≡ [] → f ≡ formula_of q → IsAbout q log present f
  sited :
      (kind : SiteKind) (sites : List Site) (set : List Bool) → IsNamed q log kind sites set → log.question ≡ None
      → present ≡ sites_present sites set → (trace : Trace) → HasEvents q.litmus present trace
      → (kept : PairList) → AreKept q.model trace.events kept
      → f ≡ coding trace kept.pairs q.litmus.pred q.litmus.want → IsAbout q log present f
  lifted :
      (kind : SiteKind) (sites : List Site) (set : List Bool) → IsNamed q log kind sites set → (before : ℕ) → log.question ≡ Some before
      → present ≡ sites_present sites set → (all : Trace) → HasEvents q.litmus sites all
      → (kept : PairList) → AreKeptWith q.litmus q.model sites set all kept
      → f ≡ coding all kept.pairs q.litmus.pred q.litmus.want → IsAbout q log present f

-- the test has too many events with the sites of the log's kind, or fewer sites than the log names
pub data LacksSites (q : Question) (log : Logged) : Type 0 where
  too_many : (kind : SiteKind) → log.kind ≡ Some kind → (line : ℕ) → AreTooMany kind q.litmus.body q.events line → LacksSites q log
  too_few :
      (kind : SiteKind) → log.kind ≡ Some kind → (sites : List Site) → AreSitesOf q kind sites → (n : ℕ) → Contains log.sites n
      → length sites < n → LacksSites q log

-- the log is accepted over the formula that it is about, and no crash answers the question of the test with its sites, whoever
-- made the log; or it is refused over that formula, at a line and for a reason; or the test lacks its sites
pub data IsVerified (q : Question) (log : Logged) (answer : Answer) : Type 0 where
  accepted :
      (present : List Site) (f : Formula) → IsAbout q log present f → IsAccepted f log → (IsReachable q.litmus q.model present → ⊥)
      → answer ≡ LogAccepted (length log.sites) → IsVerified q log answer
  refused :
      (present : List Site) (f : Formula) → IsAbout q log present f → (line : ℕ) (kind : JudgeKind) → IsRefused f log line kind
      → answer ≡ LogRefused line (kind_number kind) → IsVerified q log answer
  unsited : LacksSites q log → answer ≡ LogRefused 2 5 → IsVerified q log answer
