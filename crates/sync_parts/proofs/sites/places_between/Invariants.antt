use Rattle.std.proofs.Common.{◌≡◌, ◌+◌, ◌≤◌, ◌++◌, take, drop}
use Rattle.sync_parts.specs.Sites.{calls_present, call_stays, places_from}
use Rattle.sync_parts.specs.Without.{events_present, places_between}
use Rattle.sync_parts.proofs.sites.places_between.Given as goal

abbrev pub invariant-loop-event : goal.invariant-loop-event
invariant-loop-event l = record {
  placed :
      take l.count l.places ++ places_from (l.number + 1) (call_stays (calls_present 1 l.body l.sites l.to)) (events_present l.body l.sites l.from (drop l.event-index l.events.events))
      ≡ places_between l.body l.sites l.from l.to l.events.events;
  number : l.number ≤ l.event-index;
  count : l.count ≤ l.number;
}
