-- Which events write a cell, and what each gives it.
use Rattle.std.specs.Prelude.{ℕ, ◌+◌, ◌-◌, Bool, false, ◌&&◌, ◌==◌, nat_le, List, length, take, drop, filter, replicate, if◌then◌else◌, Option, Some, None, is_some, slice_get, unwrap_or, option_map, option_and_then}
use Rattle.fer_events.specs.declared.event.Event.{Event}
use Rattle.fer_events.specs.declared.event.Effect.{Effect}
use Rattle.fer_events.specs.declared.event.Effect.TheVariants.{Bytes, Grow, Cut, SetAttr, PutName, ClearName}
use Rattle.fer_events.specs.Orders.{numbers}
use Rattle.fer_events.specs.States.{start_state}
use Rattle.fer_events.specs.Tables.{Trace}
use Rattle.value_coding.specs.declared.cell.Cell.{Cell}
use Rattle.value_coding.specs.declared.cell.Cell.TheVariants.{SlotOf, SizeOf, AttrOf, Segment}
use Rattle.value_coding.specs.Cells.{Value, Held, Sized, Valued, Filled, cell_value}

-- an event carries this number
abbrev pub carries : Option ℕ → ℕ → Bool
carries None number = false
carries (Some carried) number = carried == number

-- what the effect of an event of the slot gives it
abbrev pub slot_given : Option ℕ → Effect → Option (Option ℕ)
slot_given file PutName = Some file
slot_given file ClearName = Some None
slot_given file effect = None

-- what the effect of an event of the file gives its size
abbrev pub size_given : Effect → Option ℕ
size_given (Grow at text size) = Some size
size_given (Cut size) = Some size
size_given effect = None

-- what the effect of an event of the file gives its value of a key
abbrev pub attr_given : ℕ → Effect → Option (Option ℕ)
attr_given key (SetAttr set value) = if set == key then Some (Some value) else None
attr_given key effect = None

-- a text at `start` has all of the places
abbrev pub has_all : ℕ → ℕ → ℕ → List ℕ → Bool
has_all at len start text = nat_le start at && nat_le (at + len) (start + length text)

-- what the effect of an event of the file gives its bytes from a place on
abbrev pub bytes_given : ℕ → ℕ → Effect → Option (List ℕ)
bytes_given at len (Bytes start text) = if has_all at len start text then Some (take len (drop (at - start) text)) else None
bytes_given at len (Grow start text size) = if has_all at len start text then Some (take len (drop (at - start) text)) else None
bytes_given at len (Cut size) = if nat_le size at then Some (replicate len 0) else None
bytes_given at len effect = None

-- what an event gives a cell, if it writes it
abbrev pub given : Cell → Event → Option Value
given (SlotOf slot) e = if carries e.slot slot then option_map Held (slot_given e.file e.effect) else None
given (SizeOf file) e = if carries e.file file then option_map Sized (size_given e.effect) else None
given (AttrOf file key) e = if carries e.file file then option_map Valued (attr_given key e.effect) else None
given (Segment file at len) e = if carries e.file file then option_map Filled (bytes_given at len e.effect) else None

-- what the event of this number gives a cell, if it writes it
abbrev pub given_by : List Event → Cell → ℕ → Option Value
given_by events cell a = option_and_then (given cell) (slice_get events (a - 1))

abbrev pub is_writer : List Event → Cell → ℕ → Bool
is_writer events cell a = is_some (given_by events cell a)

-- the writers of a cell: the numbers of the events that write it, ascending
abbrev pub writers : List Event → Cell → List ℕ
writers events cell = filter (is_writer events cell) (numbers (length events))

-- the value that a writer gives the cell; with none, that of the start
abbrev pub value_by : Trace → Cell → Option ℕ → Value
value_by t cell writer = unwrap_or (option_and_then (given_by t.events cell) writer) (cell_value (start_state t) cell)
