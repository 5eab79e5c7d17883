-- The table of events that `events` prints: a line for each event, then a line for each kept pair.
use Rattle.std.specs.Prelude.{ℕ, ◌+◌, List, [], ◌∷◌, ◌++◌, length, Option, Some, None, option_map, slice_get, unwrap_or, codes, decimal}
use Rattle.std.specs.Option.{option_or}
use Rattle.std.specs.List.{flat_map}
use Rattle.litmus_syntax.specs.Texts.{path_text}
use Rattle.fer_events.specs.declared.event.Event.{Event}
use Rattle.fer_events.specs.declared.event.Kind.{Kind}
use Rattle.fer_events.specs.declared.event.Kind.TheVariants as kind
use Rattle.fer_events.specs.declared.event.Effect.{Effect}
use Rattle.fer_events.specs.declared.event.Effect.TheVariants.{Bytes, Grow, Cut, SetAttr, PutName, ClearName, See, Nothing}
use Rattle.fer_events.specs.Tables.{Trace}
use Rattle.fer_events.specs.Paths.{slot_path}
use Rattle.fer_events.specs.Truth.{item_at}

abbrev pub kind_word : Kind → List ℕ
kind_word kind.Write = codes "write"
kind_word kind.Extend = codes "extend"
kind_word kind.Trunc = codes "trunc"
kind_word kind.Attr = codes "attr"
kind_word kind.Link = codes "link"
kind_word kind.Unlink = codes "unlink"
kind_word kind.Fsync = codes "fsync"
kind_word kind.FsyncDir = codes "fsyncdir"
kind_word kind.Sync = codes "sync"
kind_word kind.Mark = codes "mark"

-- a field's name and then what stands in it, each behind a space
abbrev pub field : List ℕ → List ℕ → List ℕ
field name text = 32 ∷ name ++ 32 ∷ text

-- a field of a number
abbrev pub number_field : List ℕ → ℕ → List ℕ
number_field name n = field name (decimal n)

-- a field that only some events have
abbrev pub field_if : {X : Type 0} → (X → List ℕ) → Option X → List ℕ
field_if written None = []
field_if written (Some x) = written x

-- the path of the name that an event changes, or of the directory that it waits for
abbrev pub path_of : Trace → Event → Option (List (List ℕ))
path_of t e = option_or (option_map (slot_path t.dirs) (item_at t.slots e.slot)) (item_at t.dirs e.dir)

-- what an event does: its bytes by their place and their length, the size that the file gets, its key and value, its word
abbrev pub effect_fields : Trace → Effect → List ℕ
effect_fields t (Bytes at text) = number_field (codes "at") at ++ number_field (codes "len") (length text)
effect_fields t (Grow at text size) = number_field (codes "at") at ++ number_field (codes "len") (length text) ++ number_field (codes "size") size
effect_fields t (Cut size) = number_field (codes "size") size
effect_fields t (SetAttr key value) = field (codes "key") (unwrap_or (slice_get t.keys key) []) ++ number_field (codes "value") value
effect_fields t (See word) = field (codes "word") (unwrap_or (slice_get t.words word) [])
effect_fields t PutName = []
effect_fields t ClearName = []
effect_fields t Nothing = []

-- the fields of an event, of which each kind has some: the path, the file, the block, and then what the event does
abbrev pub fields : Trace → Event → List ℕ
fields t e =
    field_if (λ path. field (codes "path") (path_text path)) (path_of t e)
    ++ field_if (number_field (codes "file")) e.file
    ++ field_if (number_field (codes "block")) e.block
    ++ effect_fields t e.effect

-- the line of the event of this number
abbrev pub event_line : Trace → ℕ → Event → List ℕ
event_line t number e =
    codes "event" ++ 32 ∷ decimal number ++ 32 ∷ kind_word e.kind ++ fields t e ++ number_field (codes "call") e.call ++ number_field (codes "txn") e.txn ++ codes "\n"

-- the lines of events in program order, the first having this number
abbrev pub event_lines : Trace → ℕ → List Event → List ℕ
event_lines t number [] = []
event_lines t number (e ∷ es) = event_line t number e ++ event_lines t (number + 1) es

-- the line of a pair (a, b) such that a has to reach the disk before b
abbrev pub keep_line : ℕ × ℕ → List ℕ
keep_line p = codes "keep" ++ 32 ∷ decimal p.0 ++ 32 ∷ decimal p.1 ++ codes "\n"

-- the events, numbered from 1, and the kept pairs
abbrev pub table_text : Trace → List (ℕ × ℕ) → List ℕ
table_text t pairs = event_lines t 1 t.events ++ flat_map keep_line pairs
