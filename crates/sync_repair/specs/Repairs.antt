-- What a repair answers, and what it means that a kept sync is needed.
use Rattle.std.specs.Prelude.{◌≡◌, ℕ, ◌+◌, nat_le, if◌then◌else◌, List, ◌++◌, length, map, take, drop, slice_get, Some}
use Rattle.litmus_syntax.specs.Test.{Test}
use Rattle.litmus_syntax.specs.declared.site.Site.{Site}
use Rattle.fer_events.specs.declared.event.Crash.{Crash}
use Rattle.fer_events.specs.Tables.{Trace}
use Rattle.call_events.specs.Resolved.{HasEvents}
use Rattle.model_reader.specs.declared.model.Model.{Model}
use Rattle.sync_parts.specs.Sites.{sites_present, IsSiteEvent}
use Rattle.sync_parts.specs.Reaching.{Reaches}
use Rattle.report.specs.declared.outcome.NeedLine.{NeedLine}
use Rattle.sync_repair.specs.declared.repairing.RepairAnswer.{RepairAnswer}
use Rattle.sync_repair.specs.declared.repairing.RepairAnswer.TheVariants.{NoneSuffice, Repaired, Spent}
use Rattle.sync_repair.specs.Sets.{IsLeft, IsAskedOnTheWay}
use Rattle.sync_repair.specs.Findings.{AreClosed, AreOpen}

-- the number of an event of a test without one sync in the test with it: from the number `s` of the sync's event on, one more
abbrev pub raised : ℕ → ℕ → ℕ
raised s e = if nat_le s e then e + 1 else e

-- a crash of the test without the sync in these numbers
abbrev pub crash_raised : ℕ → Crash → Crash
crash_raised s crash = record { order = map (raised s) crash.order; cut = crash.cut }

-- the sites but for the one at this place, counted from 0
abbrev pub without_one : ℕ → List Site → List Site
without_one i sites = take i sites ++ drop (i + 1) sites

-- the i-th of the kept sites, counted from 0, is needed: the line has the number of its sync's event, and a crash of the test
-- without this one sync that answers the question, in the numbers of the test with it
pub record IsNeedAt (litmus : Test) (model : Model) (kept : List Site) (i : ℕ) (need : NeedLine) : Type 0 where
  pub trace : Trace
  pub resolved : HasEvents litmus kept trace
  pub event : IsSiteEvent trace.events kept i need.event
  pub crash : Crash
  pub shown : Reaches litmus model (without_one i kept) crash
  pub numbered : need.crash ≡ crash_raised need.event crash

-- the lines show that each of the kept sites is needed, in their order
pub record AreNeeds (litmus : Test) (model : Model) (kept : List Site) (needs : List NeedLine) : Type 0 where
  pub counted : length needs ≡ length kept
  pub each : (i : ℕ) (need : NeedLine) → slice_get needs i ≡ Some need → IsNeedAt litmus model kept i need

-- what a repair over all these sites comes to, where at most `limit` clauses may be learned for a question.
-- NoneSuffice: with all sites the crash answers the question.
-- Repaired: the findings' set is what the walk leaves, each of its sites is needed, and the findings refute the question with it.
-- Spent: the walk asks about the findings' set, and the findings leave that question open
abbrev pub IsRepair : Test → Model → List Site → ℕ → RepairAnswer → Type 0
IsRepair litmus model sites limit (NoneSuffice crash) = Reaches litmus model sites crash
IsRepair litmus model sites limit (Repaired needs findings) =
    IsLeft litmus model sites findings.set × AreNeeds litmus model (sites_present sites findings.set) needs × AreClosed litmus model sites findings
IsRepair litmus model sites limit (Spent findings) =
    IsAskedOnTheWay litmus model sites findings.set × AreOpen litmus model sites limit findings
