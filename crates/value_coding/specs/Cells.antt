-- The cells of a state: what a question can read of it, each with one value.
use Rattle.std.specs.Prelude.{ℕ, ◌+◌, ◌<◌, ◌≤◌, List, [], take, drop, length, Option, slice_get, unwrap_or, option_and_then}
use Rattle.fer_events.specs.Tables.{Trace, file_count}
use Rattle.fer_events.specs.States.{State}
use Rattle.fer_events.specs.Truth.{size_of}
use Rattle.value_coding.specs.declared.cell.Cell.{Cell}
use Rattle.value_coding.specs.declared.cell.Cell.TheVariants.{SlotOf, SizeOf, AttrOf, Segment}

-- what a cell holds: a slot a file or nothing, a size a number of bytes, an attribute a value or none, a segment bytes
pub data Value : Type 0 where
  Held : Option ℕ → Value
  Sized : ℕ → Value
  Valued : Option ℕ → Value
  Filled : List ℕ → Value

-- the cell is one of the trace
abbrev pub IsThere : Trace → Cell → Type 0
IsThere t (SlotOf slot) = slot < length t.slots
IsThere t (SizeOf file) = file < file_count t
IsThere t (AttrOf file key) = (file < file_count t) × (key < length t.keys)
IsThere t (Segment file at len) = (file < file_count t) × (at + len ≤ 65536)

-- the file that a slot holds
abbrev pub held_by : State → ℕ → Option ℕ
held_by s slot = option_and_then (λ held. held) (slice_get s.slots slot)

-- a file's value of a key
abbrev pub attr_of : State → ℕ → ℕ → Option ℕ
attr_of s file key = option_and_then (λ value. value) (slice_get (unwrap_or (slice_get s.attrs key) []) file)

-- the bytes of a file from a place on
abbrev pub bytes_of : State → ℕ → ℕ → ℕ → List ℕ
bytes_of s file at len = take len (drop at (unwrap_or (slice_get s.bytes file) []))

-- what a cell holds in a state
abbrev pub cell_value : State → Cell → Value
cell_value s (SlotOf slot) = Held (held_by s slot)
cell_value s (SizeOf file) = Sized (size_of s file)
cell_value s (AttrOf file key) = Valued (attr_of s file key)
cell_value s (Segment file at len) = Filled (bytes_of s file at len)
