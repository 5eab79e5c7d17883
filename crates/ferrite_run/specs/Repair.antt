-- What `repair` answers and keeps.
use Rattle.std.specs.Prelude.{◌≡◌, ℕ, Bool, List, Some}
use Rattle.litmus_syntax.specs.declared.site.Site.{Site}
use Rattle.litmus_syntax.specs.declared.site.SiteKind.{SiteKind}
use Rattle.fer_events.specs.declared.event.Crash.{Crash}
use Rattle.proof_log.specs.Logs.{IsDerivation, Logged}
use Rattle.command_line.specs.declared.commands.SearchOptions.{SearchOptions}
use Rattle.sync_parts.specs.Sites.{sites_present}
use Rattle.sync_parts.specs.Reaching.{Reaches, IsReachable}
use Rattle.sync_shrink.specs.Sets.{things_from}
use Rattle.sync_repair.specs.declared.findings.Findings.{Findings}
use Rattle.sync_repair.specs.Sets.{IsLeft, IsAskedOnTheWay}
use Rattle.sync_repair.specs.Findings.{AreClosed, AreOpen}
use Rattle.sync_repair.specs.Repairs.{AreNeeds}
use Rattle.report.specs.declared.outcome.NeedLine.{NeedLine}
use Rattle.report.specs.Answers.{Unknown, Repaired, NoneSuffice}
use Rattle.ferrite_run.specs.declared.question.Question.{Question}
use Rattle.ferrite_run.specs.Done.{Done, only}
use Rattle.ferrite_run.specs.Check.{kept_log}
use Rattle.ferrite_run.specs.Sites.{repaired_by}

-- the numbers of the sites of a set, counted from 1
abbrev pub site_numbers : List Bool → List ℕ
site_numbers set = things_from 1 set

-- the log of what was learned about some of the sites, with the place of the question about them
abbrev pub sited_log : SiteKind → Findings → Logged
sited_log kind f = record { kind = Some kind; sites = site_numbers f.set; part = f.part; question = Some f.before }

-- of these sites, which are all of the kind: with all of them a crash still answers the question, and it is shown; or with all
-- none does, and the test gets those that the walk leaves, each with a crash that shows it needed, and with a log that refutes
-- the question of the test with them; or as many clauses as allowed were learned for a set that the walk asks about, and the
-- log of them leaves that question open
pub data IsRepaired (q : Question) (kind : SiteKind) (sites : List Site) (search : SearchOptions) (done : Done) : Type 0 where
  none_suffice :
      (crash : Crash) → Reaches q.litmus q.model sites crash → done ≡ only (NoneSuffice crash (repaired_by q.litmus sites))
      → IsRepaired q kind sites search done
  repaired :
      (IsReachable q.litmus q.model sites → ⊥) → (needs : List NeedLine) (f : Findings) → IsLeft q.litmus q.model sites f.set
      → AreNeeds q.litmus q.model (sites_present sites f.set) needs → IsDerivation f.part → AreClosed q.litmus q.model sites f
      → done ≡ record { answer = Repaired needs (repaired_by q.litmus (sites_present sites f.set)); kept = kept_log search.log (sited_log kind f) }
      → IsRepaired q kind sites search done
  unknown :
      (limit : ℕ) → search.conflicts ≡ Some limit → (f : Findings) → IsAskedOnTheWay q.litmus q.model sites f.set → IsDerivation f.part
      → AreOpen q.litmus q.model sites limit f → done ≡ record { answer = Unknown limit; kept = kept_log search.log (sited_log kind f) }
      → IsRepaired q kind sites search done
