use Rattle.std.proofs.Common.{◌≡◌, length, take}
use Rattle.sync_sites.specs.Passing.{held_upto}
use Rattle.sync_sites.proofs.held.held_behind.Given as goal

abbrev pub invariant-loop-event : goal.invariant-loop-event
invariant-loop-event l = record {
  held : l.held ≡ held_upto l.number l.start (take l.event-index l.events);
  long : length l.held ≡ length l.start;
}
