-- The events of a call.
use Rattle.std.specs.Prelude.{ℕ, ◌+◌, ◌-◌, ◌/◌, nat_le, if◌then◌else◌, List, [], ◌∷◌, length, Option, Some, None, option_map, unwrap_or}
use Rattle.litmus_syntax.specs.declared.call.Call.{Call}
use Rattle.litmus_syntax.specs.declared.call.Call.TheVariants.{Mkdir, Create, Write, Append, Truncate, Link, Unlink, Rename, Attr, Fsync, FsyncDir, Sync, Mark, Begin, Commit}
use Rattle.fer_events.specs.declared.event.Event.{Event}
use Rattle.fer_events.specs.declared.event.Kind.{Kind}
use Rattle.fer_events.specs.declared.event.Kind.TheVariants as kind
use Rattle.fer_events.specs.declared.event.Effect.{Effect}
use Rattle.fer_events.specs.declared.event.Effect.TheVariants.{Bytes, Grow, Cut, SetAttr, PutName, ClearName, See, Nothing}
use Rattle.fer_events.specs.Truth.{text_number}
use Rattle.call_events.specs.declared.files.Files.{Files}
use Rattle.call_events.specs.declared.making.Sizes.{Sizes}
use Rattle.call_events.specs.declared.making.Stamp.{Stamp}
use Rattle.call_events.specs.Cutting.{Piece, cut_up}
use Rattle.call_events.specs.Found.{dir_number, entry_of, slot_of, file_of, size_of}
use Rattle.call_events.specs.Changes.{are_one}

-- an event of a file's data, of a name, of a directory, and of none of them
abbrev pub file_event : Stamp → Kind → Option ℕ → Effect → Event
file_event stamp kind file effect = record { kind = kind; file = file; block = None; dir = None; slot = None; call = stamp.call; txn = stamp.txn; effect = effect }

abbrev pub name_event : Files → Stamp → Kind → Option ℕ → List (List ℕ) → Effect → Event
name_event s stamp kind file path effect = record { kind = kind; file = file; block = None; dir = option_map (λ entry. entry.dir) (entry_of s path); slot = slot_of s path; call = stamp.call; txn = stamp.txn; effect = effect }

abbrev pub dir_event : Stamp → Option ℕ → Event
dir_event stamp dir = record { kind = kind.FsyncDir; file = None; block = None; dir = dir; slot = None; call = stamp.call; txn = stamp.txn; effect = Nothing }

abbrev pub bare_event : Stamp → Kind → Effect → Event
bare_event stamp kind effect = record { kind = kind; file = None; block = None; dir = None; slot = None; call = stamp.call; txn = stamp.txn; effect = effect }

-- the event of a piece: a write where it ends within the size, else an extend, which sets the size to its end
abbrev pub piece_event : Sizes → Stamp → Option ℕ → ℕ → Piece → Event
piece_event sizes stamp file size piece = record {
  kind = if nat_le (piece.at + length piece.text) size then kind.Write else kind.Extend;
  file = file;
  block = Some (piece.at / sizes.block);
  dir = None;
  slot = None;
  call = stamp.call;
  txn = stamp.txn;
  effect = if nat_le (piece.at + length piece.text) size
      then Bytes piece.at piece.text
      else Grow piece.at piece.text (piece.at + length piece.text);
}

-- the stamp of the next event of a call: of the next transaction, unless all its events share one
abbrev pub next_stamp : Stamp → Stamp
next_stamp stamp = if stamp.shared then stamp else record stamp { txn = stamp.txn + 1 }

-- the events of pieces, one after another
abbrev pub piece_events : Sizes → Stamp → Option ℕ → ℕ → List Piece → List Event
piece_events sizes stamp file size [] = []
piece_events sizes stamp file size (piece ∷ pieces) =
    piece_event sizes stamp file size piece ∷ piece_events sizes (next_stamp stamp) file size pieces

-- the events of a text that is written at a place of a file of this size
abbrev pub text_events : Sizes → Stamp → Option ℕ → ℕ → ℕ → List ℕ → List Event
text_events sizes stamp file size at text = piece_events sizes stamp file size (cut_up sizes at text)

-- the events of a rename: none where both names are of one file, else a link and an unlink
abbrev pub rename_events : Files → Stamp → List (List ℕ) → List (List ℕ) → List Event
rename_events s stamp from to =
    if are_one s from to then []
    else name_event s stamp kind.Link (file_of s from) to PutName ∷ name_event s stamp kind.Unlink (file_of s from) from ClearName ∷ []

-- the events of a call among the files before it, the names that it uses having their numbers
abbrev pub events_of : Sizes → Stamp → Files → Call → List Event
events_of sizes stamp s (Mkdir path) = []
events_of sizes stamp s (Create path) = name_event s stamp kind.Link (Some (length s.contents - 1)) path PutName ∷ []
events_of sizes stamp s (Write path at text) = text_events sizes stamp (file_of s path) (size_of s (file_of s path)) at text
events_of sizes stamp s (Append path text) = text_events sizes stamp (file_of s path) (size_of s (file_of s path)) (size_of s (file_of s path)) text
events_of sizes stamp s (Truncate path size) = file_event stamp kind.Trunc (file_of s path) (Cut size) ∷ []
events_of sizes stamp s (Link from to) = name_event s stamp kind.Link (file_of s from) to PutName ∷ []
events_of sizes stamp s (Unlink path) = name_event s stamp kind.Unlink (file_of s path) path ClearName ∷ []
events_of sizes stamp s (Rename from to) = rename_events s stamp from to
events_of sizes stamp s (Attr path key value) = file_event stamp kind.Attr (file_of s path) (SetAttr (unwrap_or (text_number s.keys key) 0) value) ∷ []
events_of sizes stamp s (Fsync path) = file_event stamp kind.Fsync (file_of s path) Nothing ∷ []
events_of sizes stamp s (FsyncDir path) = dir_event stamp (dir_number s path) ∷ []
events_of sizes stamp s Sync = bare_event stamp kind.Sync Nothing ∷ []
events_of sizes stamp s (Mark word) = bare_event stamp kind.Mark (See (unwrap_or (text_number s.words word) 0)) ∷ []
events_of sizes stamp s Begin = []
events_of sizes stamp s Commit = []
