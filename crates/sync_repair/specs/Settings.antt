-- Private: the setting of a repair, what is known of it, and what a question about some of its sites comes to.
use Rattle.std.specs.Prelude.{◌≡◌, ◌≢◌, ℕ, ◌+◌, ◌≤◌, Bool, List, ◌++◌, [], length, IfSome, Option}
use Rattle.litmus_syntax.specs.Test.{Test}
use Rattle.litmus_syntax.specs.declared.site.Site.{Site}
use Rattle.litmus_syntax.specs.Sites.{AreSyncs, StandOutside}
use Rattle.cdcl_core.specs.Answering.{Solving}
use Rattle.fer_events.specs.declared.event.Crash.{Crash}
use Rattle.fer_events.specs.Pairs.{PairList}
use Rattle.fer_events.specs.Tables.{Trace}
use Rattle.call_events.specs.Resolved.{HasEvents}
use Rattle.model_reader.specs.declared.model.Model.{Model}
use Rattle.question_series.specs.Series.{IsAbout, IsRefuted}
use Rattle.question_series.specs.declared.series.SeriesAnswer.{SeriesAnswer}
use Rattle.question_series.specs.declared.series.SeriesAnswer.TheVariants.{Allowed, Forbidden, Spent}
use Rattle.sync_parts.specs.Sites.{sites_present, AreInOrder}
use Rattle.sync_parts.specs.Reaching.{Reaches, IsReachable}
use Rattle.sync_repair.specs.declared.asking.SpentQuestion.{SpentQuestion}
use Rattle.sync_repair.specs.Sets.{AreKeptWith}

-- the test, the model, all sites, and the events with all of them
pub record Setting : Type 0 where
  pub litmus : Test
  pub model : Model
  pub sites : List Site
  pub all : Trace

-- the sites are syncs behind calls outside of transactions, in the order of these, and the events are those with all of them
pub record IsSetting (s : Setting) : Type 0 where
  pub syncs : AreSyncs s.sites
  pub outside : StandOutside s.litmus.body s.sites
  pub in_order : AreInOrder s.litmus.body s.sites
  pub resolved : HasEvents s.litmus s.sites s.all

-- the pairs are those that are kept with the sites of the set
abbrev pub AreKeptIn : Setting → List Bool → PairList → Type 0
AreKeptIn s set kept = AreKeptWith s.litmus s.model s.sites set s.all kept

-- the series asks the test's question of the events with all sites
abbrev pub Asks : Setting → Solving → Type 0
Asks s series = IsAbout series s.all s.litmus.pred s.litmus.want

-- what was learned refutes the question where these pairs are kept
abbrev pub Refutes : Setting → Solving → PairList → Type 0
Refutes s series kept = IsRefuted series s.all kept.pairs s.litmus.pred s.litmus.want

-- a crash shows that the set is bad
pub record IsShown (s : Setting) (set : List Bool) (crash : Crash) : Type 0 where
  pub syncs : AreSyncs s.sites
  pub outside : StandOutside s.litmus.body s.sites
  pub reached : Reaches s.litmus s.model (sites_present s.sites set) crash

-- with the sites of the set no crash answers the question, and what was learned shows it
pub record IsSettled (s : Setting) (set : List Bool) (series : Solving) : Type 0 where
  pub kept : PairList
  pub kept_with : AreKeptIn s set kept
  pub none : IsReachable s.litmus s.model (sites_present s.sites set) → ⊥
  pub refuted : Refutes s series kept

-- as many clauses as allowed were learned for the question about the set, and they leave it undecided
pub record IsLeftUndecided (s : Setting) (set : List Bool) (series : Solving) (before limit : ℕ) : Type 0 where
  pub kept : PairList
  pub kept_with : AreKeptIn s set kept
  pub undecided : Refutes s series kept → ⊥
  pub added : length series.learned ≡ before + limit

-- what a question about the set is answered with
abbrev pub IsSetAnswer : Setting → List Bool → ℕ → Solving → Solving → SeriesAnswer → Type 0
IsSetAnswer s set limit old new (Allowed crash) = Reaches s.litmus s.model (sites_present s.sites set) crash
IsSetAnswer s set limit old new Forbidden = IsSettled s set new
IsSetAnswer s set limit old new Spent = IsLeftUndecided s set new (length old.learned) limit

-- between its questions: the series is about the setting, and the last question, if it was spent, is left undecided by it
pub record IsReady (s : Setting) (series : Solving) (limit : ℕ) (spent : Option SpentQuestion) : Type 0 where
  pub setting : IsSetting s
  pub about : Asks s series
  pub last : IfSome spent (λ q. IsLeftUndecided s q.set series q.before limit)

-- what no question changes: the setting and the limit stay, the count of spent questions doesn't fall, and under the greatest
-- limit it stays too
pub record Stays (s t : Setting) (limit later_limit count later_count : ℕ) : Type 0 where
  pub setting : s ≡ t
  pub limited : limit ≡ later_limit
  pub rises : count ≤ later_count
  pub endless : limit ≡ 18446744073709551615 → count ≡ later_count
