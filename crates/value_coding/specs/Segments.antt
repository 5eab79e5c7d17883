-- The segments of a file: the bytes that a question reads, cut where an event or another reading begins or ends.
use Rattle.std.specs.Prelude.{ℕ, ◌+◌, Bool, false, ◌&&◌, ◌==◌, nat_le, List, [], ◌∷◌, if◌then◌else◌, nat_lt, ◌++◌}
use Rattle.fer_events.specs.declared.event.Event.{Event}
use Rattle.fer_events.specs.Tables.{Trace}
use Rattle.std.specs.List.{flat_map, list_any}
use Rattle.litmus_syntax.specs.declared.pred.Pred.{Pred}
use Rattle.value_coding.specs.Runs.{runs}
use Rattle.value_coding.specs.Writers.{carries}
use Rattle.value_coding.specs.Undivided.{edges_of}
use Rattle.value_coding.specs.Readings.{parts}
use Rattle.value_coding.specs.declared.reading.Part.{Part}
use Rattle.value_coding.specs.declared.reading.Part.TheVariants.{Places}

abbrev pub has_place : ℕ → Part → Bool
has_place place (Places at len) = nat_le at place && nat_lt place (at + len)
has_place place part = false

-- the ends of a range of places that isn't empty
abbrev pub part_edges : Part → List ℕ
part_edges (Places at len) = if len == 0 then [] else at ∷ (at + len) ∷ []
part_edges part = []

abbrev pub event_edges : ℕ → Event → List ℕ
event_edges file e = if carries e.file file then edges_of e.effect else []

-- the edges of a file of which these parts are read: where an event of it or a range of places begins or ends
abbrev pub edges_in : List Event → List Part → ℕ → List ℕ
edges_in events parts file = flat_map (event_edges file) events ++ flat_map part_edges parts

abbrev pub edges : Trace → Pred → ℕ → List ℕ
edges t pred file = edges_in t.events (parts t pred file) file

-- one of the parts has the place
abbrev pub is_in_part : List Part → ℕ → Bool
is_in_part parts place = list_any (has_place place) parts

abbrev pub is_read : Trace → Pred → ℕ → ℕ → Bool
is_read t pred file place = is_in_part (parts t pred file) place

-- how many places a file has
unfoldable pub file_places : ℕ
file_places = 65536

-- the longest runs of the places of these parts that have no edge inside
unfoldable pub cut_places : List Event → List Part → ℕ → List (ℕ × ℕ)
cut_places events parts file = runs (is_in_part parts) (edges_in events parts file) file_places

-- the segments of a file: the longest runs of the places that are read and have no edge inside
unfoldable pub segments : Trace → Pred → ℕ → List (ℕ × ℕ)
segments t pred file = cut_places t.events (parts t pred file) file
