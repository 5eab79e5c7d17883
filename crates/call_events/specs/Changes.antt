-- What a call changes: first the names that it uses get numbers, then the files change.
use Rattle.std.specs.Prelude.{ℕ, ◌+◌, ◌-◌, Bool, ◌&&◌, ◌==◌, if◌then◌else◌, List, [], ◌∷◌, ◌++◌, length, take, drop, replicate, slice_set, Option, Some, None, is_some, position}
use Rattle.litmus_syntax.specs.declared.call.Call.{Call}
use Rattle.litmus_syntax.specs.declared.call.Call.TheVariants.{Mkdir, Create, Write, Append, Truncate, Link, Unlink, Rename, Attr, Fsync, FsyncDir, Sync, Mark, Begin, Commit}
use Rattle.fer_events.specs.declared.tables.SlotName.{SlotName}
use Rattle.fer_events.specs.declared.tables.AttrValue.{AttrValue}
use Rattle.fer_events.specs.States.{at_place}
use Rattle.fer_events.specs.Truth.{text_number, same_file}
use Rattle.call_events.specs.declared.files.Files.{Files}
use Rattle.fer_events.specs.Paths.{entry_number}
use Rattle.call_events.specs.Found.{entry_of, slot_of, file_of, size_of}

-- the table with a text behind it that it hasn't yet
abbrev pub noted : List (List ℕ) → List ℕ → List (List ℕ)
noted table text = if is_some (text_number table text) then table else table ++ text ∷ []

-- the files with a slot for a name that has none yet; it holds no file
abbrev pub with_entry : Files → Option SlotName → Files
with_entry s None = s
with_entry s (Some entry) = if is_some (entry_number s.slots entry) then s else record s { slots = s.slots ++ entry ∷ []; held = s.held ++ None ∷ [] }

abbrev pub with_slot : Files → List (List ℕ) → Files
with_slot s path = with_entry s (entry_of s path)

-- the files with a new one, which is empty
abbrev pub with_new_file : Files → Files
with_new_file s = record s { contents = s.contents ++ [] ∷ [] }

-- the files with numbers for the names that a call uses for the first time, and with the file that it creates
abbrev pub with_names : Files → Call → Files
with_names s (Create path) = with_new_file (with_slot s path)
with_names s (Link from to) = with_slot s to
with_names s (Rename from to) = with_slot s to
with_names s (Attr path key value) = record s { keys = noted s.keys key }
with_names s (Mark word) = record s { words = noted s.words word }
with_names s call = s

-- the content cut or filled up with zeros to a size
abbrev pub resized : ℕ → List ℕ → List ℕ
resized size content = take size content ++ replicate (size - length content) 0

-- the content with a text written at a place; an empty text leaves it as it is
abbrev pub overwritten : ℕ → List ℕ → List ℕ → List ℕ
overwritten at [] content = content
overwritten at (b ∷ bs) content = resized at content ++ (b ∷ bs) ++ drop (at + length (b ∷ bs)) content

-- the files with a text written at a place of a file
abbrev pub with_text : Files → Option ℕ → ℕ → List ℕ → Files
with_text s file at text = record s { contents = at_place file (overwritten at text) s.contents }

-- the files with a file of another size
abbrev pub with_size : Files → Option ℕ → ℕ → Files
with_size s file size = record s { contents = at_place file (resized size) s.contents }

-- the path comes to name the file, or nothing
abbrev pub with_file : Files → List (List ℕ) → Option ℕ → Files
with_file s path file = record s { held = at_place (slot_of s path) (λ _. file) s.held }

-- the attributes with a value for a key of a file
abbrev pub with_value : List AttrValue → AttrValue → Option ℕ → List AttrValue
with_value attrs value None = attrs ++ value ∷ []
with_value attrs value (Some place) = slice_set attrs place value

abbrev pub value_place : List AttrValue → ℕ → ℕ → Option ℕ
value_place attrs file key = position (λ a. (a.file == file) && (a.key == key)) attrs

abbrev pub with_attr : Files → Option ℕ → Option ℕ → ℕ → Files
with_attr s (Some file) (Some key) value = record s { attrs = with_value s.attrs (record { file = file; key = key; value = value }) (value_place s.attrs file key) }
with_attr s _ _ value = s

-- both paths name one file
abbrev pub are_one : Files → List (List ℕ) → List (List ℕ) → Bool
are_one s from to = same_file (file_of s from) (file_of s to)

-- the files behind a call, the names that it uses having their numbers
abbrev pub changed : Files → Call → Files
changed s (Mkdir path) = record s { dirs = s.dirs ++ path ∷ [] }
changed s (Create path) = with_file s path (Some (length s.contents - 1))
changed s (Write path at text) = with_text s (file_of s path) at text
changed s (Append path text) = with_text s (file_of s path) (size_of s (file_of s path)) text
changed s (Truncate path size) = with_size s (file_of s path) size
changed s (Link from to) = with_file s to (file_of s from)
changed s (Unlink path) = with_file s path None
changed s (Rename from to) = if are_one s from to then s else with_file (with_file s to (file_of s from)) from None
changed s (Attr path key value) = with_attr s (file_of s path) (text_number s.keys key) value
changed s (Fsync path) = s
changed s (FsyncDir path) = s
changed s Sync = s
changed s (Mark word) = s
changed s Begin = s
changed s Commit = s

-- the files behind a call that isn't refused
abbrev pub files_after : Files → Call → Files
files_after s call = changed (with_names s call) call
