-- Which calls are refused, and with which kind: the first that applies in the order in which a call's row lists them.
use Rattle.std.specs.Prelude.{ℕ, ◌+◌, Bool, true, false, not, ◌&&◌, ◌||◌, nat_lt, nat_le, if◌then◌else◌, List, [], ◌∷◌, length, ◌++◌, count_by, Option, Some, None, is_some, is_none}
use Rattle.std.specs.Option.{option_or}
use Rattle.litmus_syntax.specs.declared.call.Call.{Call}
use Rattle.litmus_syntax.specs.declared.call.Call.TheVariants.{Mkdir, Create, Write, Append, Truncate, Link, Unlink, Rename, Attr, Fsync, FsyncDir, Sync, Mark, Begin, Commit}
use Rattle.fer_events.specs.declared.event.Event.{Event}
use Rattle.fer_events.specs.declared.event.Kind.{Kind}
use Rattle.fer_events.specs.declared.event.Kind.TheVariants as kind
use Rattle.fer_events.specs.Truth.{text_number}
use Rattle.call_events.specs.declared.files.Files.{Files}
use Rattle.call_events.specs.declared.call_kind.CallKind.{CallKind}
use Rattle.call_events.specs.declared.call_kind.CallKind.TheVariants.{NoSuchFile, NameTaken, NoDirectory, FileTooLong, TooManyEvents, UnknownMark, TooMany}
use Rattle.fer_events.specs.Paths.{split_last}
use Rattle.call_events.specs.Found.{is_dir, slot_of, file_of, size_of}

-- the number that is printed for a kind
abbrev pub kind_number : CallKind → ℕ
kind_number NoSuchFile = 10
kind_number NameTaken = 11
kind_number NoDirectory = 12
kind_number FileTooLong = 13
kind_number TooManyEvents = 14
kind_number UnknownMark = 15
kind_number TooMany = 16

-- the kind where the test holds
abbrev pub kind_if : Bool → CallKind → Option CallKind
kind_if test kind = if test then Some kind else None

-- the path names no file
abbrev pub no_file : Files → List (List ℕ) → Option CallKind
no_file s path = kind_if (is_none (file_of s path)) NoSuchFile

abbrev pub lacks_parent : Files → Option (List (List ℕ) × List ℕ) → Bool
lacks_parent s None = false
lacks_parent s (Some (parent, name)) = not (is_dir s parent)

-- the parent of a new name isn't a directory; the root has no parent
abbrev pub no_parent : Files → List (List ℕ) → Option CallKind
no_parent s path = kind_if (lacks_parent s (split_last path)) NoDirectory

-- the path isn't a directory
abbrev pub no_dir : Files → List (List ℕ) → Option CallKind
no_dir s path = kind_if (not (is_dir s path)) NoDirectory

-- a new name is a file or a directory
abbrev pub taken : Files → List (List ℕ) → Option CallKind
taken s path = kind_if (is_some (file_of s path) || is_dir s path) NameTaken

-- the name that a rename gives is a directory
abbrev pub taken_by_dir : Files → List (List ℕ) → Option CallKind
taken_by_dir s path = kind_if (is_dir s path) NameTaken

-- a file would end behind byte 65,536
abbrev pub too_long : ℕ → Option CallKind
too_long end = kind_if (nat_lt 65536 end) FileTooLong

-- the call would make the 17th directory, the 33rd file, the 65th name, the 17th key
abbrev pub dirs_full : Files → Option CallKind
dirs_full s = kind_if (nat_le 16 (length s.dirs)) TooMany

abbrev pub files_full : Files → Option CallKind
files_full s = kind_if (nat_le 32 (length s.contents)) TooMany

abbrev pub names_full : Files → List (List ℕ) → Option CallKind
names_full s path = kind_if (is_none (slot_of s path) && nat_le 64 (length s.slots)) TooMany

abbrev pub keys_full : Files → List ℕ → Option CallKind
keys_full s key = kind_if (is_none (text_number s.keys key) && nat_le 16 (length s.keys)) TooMany

-- the first kind of a row
abbrev pub first_of : List (Option CallKind) → Option CallKind
first_of [] = None
first_of (cause ∷ causes) = option_or cause (first_of causes)

-- the kind with which a call is refused for what it finds among the files
abbrev pub refusal : Files → Call → Option CallKind
refusal s (Mkdir path) = first_of (no_parent s path ∷ taken s path ∷ dirs_full s ∷ [])
refusal s (Create path) = first_of (no_parent s path ∷ taken s path ∷ files_full s ∷ names_full s path ∷ [])
refusal s (Write path at text) = first_of (no_file s path ∷ too_long (at + length text) ∷ [])
refusal s (Append path text) = first_of (no_file s path ∷ too_long (size_of s (file_of s path) + length text) ∷ [])
refusal s (Truncate path size) = first_of (no_file s path ∷ too_long size ∷ [])
refusal s (Link from to) = first_of (no_file s from ∷ no_parent s to ∷ taken s to ∷ names_full s to ∷ [])
refusal s (Unlink path) = no_file s path
refusal s (Rename from to) = first_of (no_file s from ∷ no_parent s to ∷ taken_by_dir s to ∷ names_full s to ∷ [])
refusal s (Attr path key value) = first_of (no_file s path ∷ keys_full s key ∷ [])
refusal s (Fsync path) = no_file s path
refusal s (FsyncDir path) = no_dir s path
refusal s Sync = None
refusal s (Mark word) = None
refusal s Begin = None
refusal s Commit = None

abbrev pub is_sync : Kind → Bool
is_sync kind.Fsync = true
is_sync kind.FsyncDir = true
is_sync kind.Sync = true
is_sync _ = false

-- more than 64 events that aren't syncs, or more than 128 in all
abbrev pub too_many : List Event → Bool
too_many events = nat_lt 64 (count_by (λ e. not (is_sync e.kind)) events) || nat_lt 128 (length events)

-- a body call is refused with TooManyEvents where its events pass a limit
abbrev pub events_full : List Event → List Event → Option CallKind
events_full before more = kind_if (too_many (before ++ more)) TooManyEvents
