-- When a crash is one of a test with some syncs: under a model it may come, and it answers the test's question.
use Rattle.std.specs.Prelude.{ℕ, List, []}
use Rattle.litmus_syntax.specs.Test.{Test}
use Rattle.litmus_syntax.specs.declared.site.Site.{Site}
use Rattle.fer_events.specs.declared.event.Crash.{Crash}
use Rattle.fer_events.specs.Orders.{StandsBefore}
use Rattle.fer_events.specs.Tables.{Trace}
use Rattle.fer_events.specs.Witness.{IsWitness}
use Rattle.call_events.specs.Resolved.{HasEvents}
use Rattle.model_reader.specs.declared.model.Model.{Model}
use Rattle.event_relations.specs.Kept.{IsKept}

-- with these syncs, the crash keeps what the model keeps and answers the test's question
pub record Reaches (litmus : Test) (model : Model) (sites : List Site) (crash : Crash) : Type 0 where
  pub trace : Trace
  pub resolved : HasEvents litmus sites trace
  pub answers : IsWitness trace [] litmus.pred litmus.want crash
  pub keeps : (a b : ℕ) → IsKept model trace.events a b → StandsBefore crash.order a b

-- some crash does
abbrev pub IsReachable : Test → Model → List Site → Type 0
IsReachable litmus model sites = (crash : Crash) × Reaches litmus model sites crash
