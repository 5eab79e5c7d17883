use Rattle.std.proofs.Common.{◌≡◌, [], drop}
use Rattle.call_events.specs.Running.{run_setup}
use Rattle.call_events.specs.Small.{IsSmall}
use Rattle.call_events.specs.Runs.{IsConsistent, AreFormed}
use Rattle.call_events.proofs.running.set_up_calls.Given as goal

abbrev pub invariant-loop-step : goal.invariant-loop-step
invariant-loop-step l = record {
  rest : run_setup l.files (drop l.step-index l.setup) ≡ run_setup l.initial.files l.setup;
  small : IsSmall l.files;
  unmarked : l.files.words ≡ [];
  whole : IsConsistent l.files;
  formed : AreFormed l.files;
}
