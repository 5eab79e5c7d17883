-- The step in which the sites of a question's test are listed, and what a test is with the calls of some of them.
use Rattle.std.specs.Prelude.{◌≡◌, ℕ, ◌+◌, ◌≤◌, List, length}
use Rattle.litmus_syntax.specs.Test.{Test}
use Rattle.litmus_syntax.specs.declared.site.Site.{Site}
use Rattle.litmus_syntax.specs.declared.site.SiteKind.{SiteKind}
use Rattle.litmus_syntax.specs.Sites.{with_sites}
use Rattle.call_events.specs.declared.call_kind.CallKind.TheVariants.{TooManyEvents}
use Rattle.call_events.specs.Refusals.{kind_number}
use Rattle.sync_sites.specs.SiteLists.{sites_of, AreTooMany}
use Rattle.report.specs.Answers.{Answer, LitmusRefused}
use Rattle.ferrite_run.specs.declared.question.Question.{Question}
use Rattle.ferrite_run.specs.Done.{Done}
use Rattle.ferrite_run.specs.Steps.{Step}

-- these are all sites of the kind, and they aren't too many
pub record AreSitesOf (q : Question) (kind : SiteKind) (sites : List Site) : Type 0 where
  pub listed : sites ≡ sites_of kind q.litmus.body q.events
  pub few : length q.events.events + length sites ≤ 128

-- the answer where there are too many events with the sites
abbrev pub HasTooMany : Question → SiteKind → Answer → Type 0
HasTooMany q kind answer = (line : ℕ) × AreTooMany kind q.litmus.body q.events line × (answer ≡ LitmusRefused line (kind_number TooManyEvents))

-- the sites are listed
abbrev pub ListSites : Question → SiteKind → (List Site → Done → Type 0) → Done → Type 0
ListSites q kind Next done = Step (List Site) (HasTooMany q kind) (AreSitesOf q kind) Next done

-- the test with the calls of these sites in its body
abbrev pub repaired_by : Test → List Site → Test
repaired_by litmus sites = record litmus { body = with_sites 1 litmus.body sites }
