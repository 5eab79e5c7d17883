use Rattle.std.proofs.Common.{◌≡◌, ℕ, ◌<◌, ◌||◌, length, take}
use Rattle.std.specs.List.{flat_map}
use Rattle.value_coding.specs.Runs.{is_edge}
use Rattle.value_coding.specs.Segments.{event_edges}
use Rattle.value_coding.specs.Marks.{marked}
use Rattle.value_coding.proofs.marking.mark_events.Given as goal

abbrev pub invariant-loop-event : goal.invariant-loop-event
invariant-loop-event l = record {
  len : length l.marks ≡ length l.fn.marks;
  set : (p : ℕ) → p < length l.fn.marks → marked l.marks p ≡ (marked l.fn.marks p || is_edge (flat_map (event_edges l.file) (take l.event-index l.events)) p);
}
