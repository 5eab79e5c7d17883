use Rattle.std.proofs.Common.{◌≡◌, length, take}
use Rattle.sync_shrink.specs.Sets.{without}
use Rattle.sync_shrink.specs.Steps.{at_trial}
use Rattle.sync_shrink.proofs.walking.fill_trial.Given as goal

abbrev pub invariant-loop-place : goal.invariant-loop-place
invariant-loop-place l = record {
  full : length l.trial ≡ length l.kept;
  filled : take l.place l.trial ≡ take l.place (without l.thing (at_trial l.thing l.kept));
}
