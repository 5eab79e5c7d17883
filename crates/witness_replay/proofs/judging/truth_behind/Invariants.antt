use Rattle.std.proofs.Common.{◌≡◌, take}
use Rattle.crash_state.specs.Fits.{Fits}
use Rattle.fer_events.specs.States.{start_state, after_numbers}
use Rattle.witness_replay.proofs.judging.truth_behind.Given as goal

abbrev pub invariant-loop-event : goal.invariant-loop-event
invariant-loop-event l = record {
  fits : Fits l.scratch l.events;
  at : l.scratch ≡ after_numbers l.events.events (start_state l.events) (take l.event-index l.before);
}
