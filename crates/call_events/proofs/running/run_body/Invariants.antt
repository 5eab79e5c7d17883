use Rattle.std.proofs.Common.{◌≡◌, ◌+◌, ◌<◌, ◌≤◌, length, drop, All}
use Rattle.call_events.specs.Running.{run_body, begun}
use Rattle.call_events.specs.Runs.{IsRun, IsTraced}
use Rattle.call_events.proofs.Counting.{changes}
use Rattle.call_events.proofs.running.run_body.Given as goal

abbrev pub invariant-loop-place : goal.invariant-loop-place
invariant-loop-place l = record {
  rest : run_body l.sizes (l.place + 1) l.progress (drop l.place l.body) ≡ run_body l.sizes 1 (begun l.fn.files) l.body;
  run : IsRun l.progress;
  traced : IsTraced l.fn.files l.progress;
  calls : All (λ e. e.call < l.place + 1) l.progress.events;
  few : l.place + changes (drop l.place l.body) ≤ changes l.body + length l.progress.events;
}
