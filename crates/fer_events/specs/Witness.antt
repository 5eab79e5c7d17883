-- When a crash answers a question.
use Rattle.std.specs.Prelude.{◌≡◌, ℕ, Bool, List}
use Rattle.litmus_syntax.specs.declared.pred.Pred.{Pred}
use Rattle.fer_events.specs.declared.event.Crash.{Crash}
use Rattle.fer_events.specs.Orders.{IsCrash}
use Rattle.fer_events.specs.Tables.{Trace}
use Rattle.fer_events.specs.States.{after_crash}
use Rattle.fer_events.specs.Truth.{truth}

-- a crash of the trace after which the predicate is true for `exists:`, false for `always:`
pub record IsWitness (t : Trace) (kept : List (ℕ × ℕ)) (pred : Pred) (want : Bool) (crash : Crash) : Type 0 where
  pub crashes : IsCrash t.events kept crash
  pub answers : truth t (after_crash t crash) pred ≡ want
