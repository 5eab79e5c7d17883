-- What a question reads of a state, and of which files.
use Rattle.std.specs.Prelude.{ℕ, Bool, true, false, ◌&&◌, List, [], ◌∷◌, length, filter, Option, Some, None, slice_get, unwrap_or, ◌||◌, ◌++◌, map}
use Rattle.fer_events.specs.declared.event.Effect.{Effect}
use Rattle.fer_events.specs.declared.event.Effect.TheVariants.{PutName}
use Rattle.fer_events.specs.Tables.{Trace}
use Rattle.std.specs.List.{list_any}
use Rattle.litmus_syntax.specs.declared.pred.Pred.{Pred, fold-Pred}
use Rattle.litmus_syntax.specs.declared.pred.Pred.TheOpen.{Pred-F}
use Rattle.litmus_syntax.specs.declared.pred.Pred.TheOpen as atom
use Rattle.fer_events.specs.Truth.{slot_number, text_number}
use Rattle.value_coding.specs.Writers.{carries}
use Rattle.value_coding.specs.declared.reading.Part.{Part}
use Rattle.value_coding.specs.declared.reading.Part.TheVariants.{Name, Size, Key, Places}

-- parts, each with the slot of the path; a path without a slot reads nothing
abbrev pub at_slot : Option ℕ → List Part → List (ℕ × Part)
at_slot None parts = []
at_slot (Some slot) parts = map (λ part. (slot, part)) parts

-- a key without a number reads nothing
abbrev pub key_part : Option ℕ → List Part
key_part None = []
key_part (Some key) = Key key ∷ []

-- what one atom reads, or a connective over what its parts read
abbrev pub readings_of : Trace → Pred-F (List (ℕ × Part)) → List (ℕ × Part)
readings_of t atom.True = []
readings_of t atom.False = []
readings_of t (atom.Exists path) = at_slot (slot_number t path) (Name ∷ [])
readings_of t (atom.Same left right) = at_slot (slot_number t left) (Name ∷ []) ++ at_slot (slot_number t right) (Name ∷ [])
readings_of t (atom.SizeIs path size) = at_slot (slot_number t path) (Name ∷ Size ∷ [])
readings_of t (atom.ContentIs path text) = at_slot (slot_number t path) (Name ∷ Size ∷ Places 0 (length text) ∷ [])
readings_of t (atom.BytesAre path at text) = at_slot (slot_number t path) (Name ∷ Size ∷ Places at (length text) ∷ [])
readings_of t (atom.AttrIs path key value) = at_slot (slot_number t path) (Name ∷ key_part (text_number t.keys key))
readings_of t (atom.Seen word) = []
readings_of t (atom.Not inner) = inner
readings_of t (atom.And left right) = left ++ right
readings_of t (atom.Or left right) = left ++ right

abbrev pub readings : Trace → Pred → List (ℕ × Part)
readings t pred = fold-Pred (List (ℕ × Part)) (readings_of t) pred

abbrev pub is_put : Effect → Bool
is_put PutName = true
is_put effect = false

-- the file is a candidate of the slot: the slot holds it at the start, or an event puts it there
abbrev pub may_hold : Trace → ℕ → ℕ → Bool
may_hold t slot file =
    carries (unwrap_or (slice_get t.start.slots slot) None) file
    || list_any (λ e. carries e.slot slot && carries e.file file && is_put e.effect) t.events

-- of these readings, the parts that are read of a file: those of slots that it is a candidate of
abbrev pub read_of : Trace → List (ℕ × Part) → ℕ → List Part
read_of t readings file = map (λ r. r.1) (filter (λ r. may_hold t r.0 file) readings)

-- the parts that a question reads of a file
abbrev pub parts : Trace → Pred → ℕ → List Part
parts t pred file = read_of t (readings t pred) file
