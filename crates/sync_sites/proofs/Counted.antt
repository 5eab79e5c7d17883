-- How many events a call makes doesn't hang on the stamp; a sync makes one and changes no file.
use Rattle.std.proofs.Common.{◌≡◌, ℕ, true, List, [], ◌∷◌, length, Option, refl, inl, inr, arith}
use Rattle.std.specs.Prelude.{count_by}
use Rattle.std.proofs.lemmas.Bool.{cases_Bool}
use Rattle.litmus_syntax.specs.declared.call.Call.{Call}
use Rattle.litmus_syntax.specs.declared.call.Call.TheVariants.{Mkdir, Create, Write, Append, Truncate, Link, Unlink, Rename, Attr, Fsync, FsyncDir, Sync, Mark, Begin, Commit}
use Rattle.litmus_syntax.specs.CallKinds.{is_sync}
use Rattle.fer_events.specs.declared.event.Event.{Event}
use Rattle.call_events.specs.declared.files.Files.{Files}
use Rattle.call_events.specs.declared.making.Sizes.{Sizes}
use Rattle.call_events.specs.declared.making.Stamp.{Stamp}
use Rattle.call_events.specs.Cutting.{Piece, cut_up}
use Rattle.call_events.specs.Found.{file_of, size_of}
use Rattle.call_events.specs.Changes.{are_one, with_names, files_after}
use Rattle.call_events.specs.CallEvents.{next_stamp, piece_event, piece_events, events_of}
use Rattle.call_events.specs.Runs.{isnt_sync}
use Rattle.call_events.proofs.Runs.{count_append}

-- as many events, and as many that aren't syncs
pub record AreCounted (xs ys : List Event) : Type 0 where
  pub long : length xs ≡ length ys
  pub changes : count_by isnt_sync xs ≡ count_by isnt_sync ys

pieces_counted : (sizes : Sizes) (a b : Stamp) (file : Option ℕ) (size : ℕ) (pieces : List Piece) → AreCounted (piece_events sizes a file size pieces) (piece_events sizes b file size pieces)
pieces_counted sizes a b file size [] = record { long = refl; changes = refl }
pieces_counted sizes a b file size (piece ∷ pieces) =
    let first_a : List Event = piece_event sizes a file size piece ∷ [] in
    let first_b : List Event = piece_event sizes b file size piece ∷ [] in
    let rest = pieces_counted sizes (next_stamp a) (next_stamp b) file size pieces in
    let first : count_by isnt_sync first_a ≡ count_by isnt_sync first_b = refl in
    record {
      long = omega (arith, rest.long);
      changes =
          omega (
            arith,
            rest.changes,
            first,
            count_append first_a (piece_events sizes (next_stamp a) file size pieces),
            count_append first_b (piece_events sizes (next_stamp b) file size pieces),
          );
    }

pub calls_counted : (sizes : Sizes) (a b : Stamp) (s : Files) (call : Call) → AreCounted (events_of sizes a s call) (events_of sizes b s call)
calls_counted sizes a b s (Mkdir path) = record { long = refl; changes = refl }
calls_counted sizes a b s (Create path) = record { long = refl; changes = refl }
calls_counted sizes a b s (Write path at text) = pieces_counted sizes a b (file_of s path) (size_of s (file_of s path)) (cut_up sizes at text)
calls_counted sizes a b s (Append path text) = pieces_counted sizes a b (file_of s path) (size_of s (file_of s path)) (cut_up sizes (size_of s (file_of s path)) text)
calls_counted sizes a b s (Truncate path size) = record { long = refl; changes = refl }
calls_counted sizes a b s (Link from to) = record { long = refl; changes = refl }
calls_counted sizes a b s (Unlink path) = record { long = refl; changes = refl }
calls_counted sizes a b s (Rename from to) = elim (cases_Bool (are_one s from to)) [
  | inl one ↦ rw one (record { long = refl; changes = refl })
  | inr two ↦ rw two (record { long = refl; changes = refl })
]
calls_counted sizes a b s (Attr path key value) = record { long = refl; changes = refl }
calls_counted sizes a b s (Fsync path) = record { long = refl; changes = refl }
calls_counted sizes a b s (FsyncDir path) = record { long = refl; changes = refl }
calls_counted sizes a b s Sync = record { long = refl; changes = refl }
calls_counted sizes a b s (Mark word) = record { long = refl; changes = refl }
calls_counted sizes a b s Begin = record { long = refl; changes = refl }
calls_counted sizes a b s Commit = record { long = refl; changes = refl }

-- a sync makes one event, and leaves the files as they are
pub record IsIdle (sizes : Sizes) (stamp : Stamp) (s : Files) (call : Call) : Type 0 where
  pub one : length (events_of sizes stamp s call) ≡ 1
  pub none : count_by isnt_sync (events_of sizes stamp s call) ≡ 0
  pub named : with_names s call ≡ s
  pub after : files_after s call ≡ s

pub sync_idle : (sizes : Sizes) (stamp : Stamp) (s : Files) (call : Call) → is_sync call ≡ true → IsIdle sizes stamp s call
sync_idle sizes stamp s (Fsync path) sync = record { one = refl; none = refl; named = refl; after = refl }
sync_idle sizes stamp s (FsyncDir path) sync = record { one = refl; none = refl; named = refl; after = refl }
sync_idle sizes stamp s Sync sync = record { one = refl; none = refl; named = refl; after = refl }
sync_idle sizes stamp s (Mkdir path) sync = cc
sync_idle sizes stamp s (Create path) sync = cc
sync_idle sizes stamp s (Write path at text) sync = cc
sync_idle sizes stamp s (Append path text) sync = cc
sync_idle sizes stamp s (Truncate path size) sync = cc
sync_idle sizes stamp s (Link from to) sync = cc
sync_idle sizes stamp s (Unlink path) sync = cc
sync_idle sizes stamp s (Rename from to) sync = cc
sync_idle sizes stamp s (Attr path key value) sync = cc
sync_idle sizes stamp s (Mark word) sync = cc
sync_idle sizes stamp s Begin sync = cc
sync_idle sizes stamp s Commit sync = cc
