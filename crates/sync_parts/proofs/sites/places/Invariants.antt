use Rattle.std.proofs.Common.{◌≡◌, ◌+◌, ◌++◌, drop}
use Rattle.sync_parts.specs.Sites.{calls_present, call_stays, places_from, places_present}
use Rattle.sync_parts.proofs.sites.places.Given as goal

abbrev pub invariant-loop-place : goal.invariant-loop-place
invariant-loop-place l =
    l.places.items ++ places_from (l.place + 1) (call_stays (calls_present 1 l.body l.sites l.present)) (drop l.place l.events.events)
    ≡ places_present l.body l.sites l.present l.events.events
