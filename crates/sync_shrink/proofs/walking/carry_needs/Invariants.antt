use Rattle.std.proofs.Common.{◌≡◌, length, map}
use Rattle.sync_shrink.specs.Steps.{AreCarried}
use Rattle.sync_shrink.proofs.walking.carry_needs.Given as goal

abbrev pub invariant-loop-place : goal.invariant-loop-place
invariant-loop-place g l = record {
  kept : l.kept ≡ l.fn.kept;
  size : length l.trial ≡ length l.kept;
  count : length l.needs ≡ length l.fn.needs;
  things : map (λ need. need.thing) l.needs ≡ map (λ need. need.thing) l.fn.needs;
  carried : AreCarried (g.O.Oracle.shows l.oracle) l.fn.kept l.place l.needs;
}
