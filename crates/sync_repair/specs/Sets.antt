-- Sets of the sites of a test, by a truth value for each site: what the model keeps with one, which are bad, and which a repair
-- goes through and leaves.
use Rattle.std.specs.Prelude.{◌≡◌, ◌↔◌, ℕ, Bool, List, length, Contains}
use Rattle.litmus_syntax.specs.Test.{Test}
use Rattle.litmus_syntax.specs.declared.site.Site.{Site}
use Rattle.litmus_syntax.specs.Sites.{AreSyncs, StandOutside}
use Rattle.fer_events.specs.declared.event.Event.{Event}
use Rattle.fer_events.specs.Pairs.{PairList, IsListed}
use Rattle.fer_events.specs.Lifting.{AreLifted}
use Rattle.fer_events.specs.Tables.{Trace}
use Rattle.call_events.specs.Resolved.{HasEvents}
use Rattle.model_reader.specs.declared.model.Model.{Model}
use Rattle.event_relations.specs.Kept.{IsKept}
use Rattle.sync_parts.specs.Sites.{sites_present, places_present}
use Rattle.sync_parts.specs.Reaching.{IsReachable}
use Rattle.sync_shrink.specs.Walk.{Walk, IsAsked}

-- these are the pairs of the events that the model keeps
pub record AreKept (model : Model) (events : List Event) (pairs : PairList) : Type 0 where
  pub counted : pairs.n ≡ length events
  pub listed : IsListed pairs
  pub exactly : (a b : ℕ) → Contains pairs.pairs (a, b) ↔ IsKept model events a b

-- of the events with all sites, these are the pairs that are kept where only the sites of the set are present: those that the
-- model keeps of the test with these sites, in the numbers of all events
pub record AreKeptWith (litmus : Test) (model : Model) (sites : List Site) (set : List Bool) (all : Trace) (pairs : PairList) : Type 0 where
  pub trace : Trace
  pub resolved : HasEvents litmus (sites_present sites set) trace
  pub some : PairList
  pub kept : AreKept model trace.events some
  pub lifted : AreLifted (places_present litmus.body sites set all.events) (length all.events) some pairs

-- the set is bad: with its sites, which are syncs behind calls outside of transactions, some crash answers the question
pub record IsBad (litmus : Test) (model : Model) (sites : List Site) (set : List Bool) : Type 0 where
  pub syncs : AreSyncs sites
  pub outside : StandOutside litmus.body sites
  pub reached : IsReachable litmus model (sites_present sites set)

-- the set is left where the walk dropped each site that isn't needed
abbrev pub IsLeft : Test → Model → List Site → List Bool → Type 0
IsLeft litmus model sites set = Walk (IsBad litmus model sites) (length sites) (length sites) set

-- the walk asks about the set: it has all sites, or is what is left on the way without the next site
abbrev pub IsAskedOnTheWay : Test → Model → List Site → List Bool → Type 0
IsAskedOnTheWay litmus model sites set = IsAsked (IsBad litmus model sites) (length sites) set
