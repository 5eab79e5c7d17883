-- Each generated call gives one event, which tells what the call does.
use Rattle.std.proofs.Common.{◌≡◌, ℕ, ◌+◌, ◌-◌, Bool, true, false, not, if◌then◌else◌, List, [], ◌∷◌, length, nat_le, Option, Some, None, is_some, refl, sym, ap, inl, inr}
use Rattle.std.specs.Option.{option_map}
use Rattle.std.specs.Prelude.{unwrap_or}
use Rattle.std.proofs.lemmas.Bool.{cases_Bool, true≢false}
use Rattle.litmus_syntax.specs.declared.call.Call.{Call}
use Rattle.litmus_syntax.specs.declared.call.Call.TheVariants.{Create, Write, Truncate, Link, Attr, Sync, Mark}
use Rattle.fer_events.specs.declared.event.Event.{Event}
use Rattle.fer_events.specs.declared.event.Kind.TheVariants as kind
use Rattle.fer_events.specs.declared.event.Effect.{Effect}
use Rattle.fer_events.specs.declared.event.Effect.TheVariants.{Bytes, Grow, Cut, SetAttr, PutName, See, Nothing}
use Rattle.fer_events.specs.declared.tables.SlotName.{SlotName}
use Rattle.fer_events.specs.Truth.{text_number}
use Rattle.call_events.specs.declared.files.Files.{Files}
use Rattle.call_events.specs.declared.files.Progress.{Progress}
use Rattle.call_events.specs.declared.making.Sizes.{Sizes}
use Rattle.call_events.specs.declared.making.Stamp.{Stamp}
use Rattle.call_events.specs.Cutting.{Piece, begins_there, cut_up}
use Rattle.call_events.specs.Found.{dir_number, is_dir, entry_of, slot_of, file_of, size_of}
use Rattle.call_events.specs.Refusals.{refusal, no_parent}
use Rattle.call_events.specs.Changes.{noted, with_slot, with_names, files_after}
use Rattle.call_events.specs.CallEvents.{file_event, name_event, bare_event, piece_event, piece_events}
use Rattle.call_events.specs.Running.{stamp_of, events_next}
use Rattle.call_events.proofs.Keeping.{create_none, link_none, file_present, test_fails}
use Rattle.call_events.proofs.NameFits.{slotted, file_kept}
use Rattle.generated_repairs.proofs.Effects.{KeepsNames}
use Rattle.generated_repairs.proofs.Growing.{Extends, alike, extends_on, entry_extends, word_extends, attr_extends, slot_stays, word_stays, noted_there}

-- no word is seen
abbrev SeesNothing : Effect → Type 0
SeesNothing effect = (w : ℕ) → effect ≡ See w → ⊥

-- what the event of a call tells, by the numbers of names and words in these files
abbrev pub Tells : Files → Call → Event → Type 0
Tells t (Create path) e = (k : ℕ) × (e.slot ≡ Some k) × (slot_of t path ≡ Some k) × (e.effect ≡ PutName)
Tells t (Mark word) e = (w : ℕ) × (e.effect ≡ See w) × (text_number t.words word ≡ Some w)
Tells t Sync e = (e.kind ≡ kind.Sync) × (e.effect ≡ Nothing)
Tells t call e = SeesNothing e.effect

-- the event is the call's, and clears no name
pub record IsDone (t : Files) (call : Call) (e : Event) : Type 0 where
  pub tells : Tells t call e
  pub keeps : KeepsNames e.file e.effect

tells_on : (s t : Files) (call : Call) (e : Event) → Extends s t → Tells s call e → Tells t call e
tells_on s t (Create path) e more (k, slot, at, puts) = (k, slot, slot_stays s t path k more at, puts)
tells_on s t (Mark word) e more (w, sees, at) = (w, sees, word_stays s t word w more at)
tells_on s t call e more h = h

-- what is told of files is told of those that they grow to
pub done_on : (s t : Files) (call : Call) (e : Event) → Extends s t → IsDone s call e → IsDone t call e
done_on s t call e more done = record { tells = tells_on s t call e more done.tells; keeps = done.keeps }

-- a call that isn't refused has one event, and the tables grow
pub record IsSingle (call : Call) : Type 0 where
  pub one : (sizes : Sizes) (number : ℕ) (p : Progress) → refusal p.files call ≡ None → (e : Event) × (events_next sizes number p call ≡ e ∷ []) × IsDone (files_after p.files call) call e
  pub grows : (s : Files) → Extends s (files_after s call)

-- a number that is there
the_number : (o : Option ℕ) → is_some o ≡ true → (k : ℕ) × (o ≡ Some k)
the_number None h = absurd (true≢false (sym h))
the_number (Some k) h = (k, refl)

root_entry : (o : Option ℕ) (name : List ℕ) → not (is_some o) ≡ false → is_some {T = SlotName} (option_map (λ dir. record { dir = dir; name = name }) o) ≡ true
root_entry None name h = absurd (true≢false h)
root_entry (Some d) name h = refl

-- a name in the root has a slot behind its first use
created_slot : (s : Files) (name : List ℕ) → no_parent s (name ∷ []) ≡ None → is_some (slot_of (with_slot s (name ∷ [])) (name ∷ [])) ≡ true
created_slot s name parent =
    let root : not (is_dir s []) ≡ false = test_fails _ _ parent in
    slotted s (name ∷ []) (entry_of s (name ∷ [])) refl (root_entry (dir_number s []) name root)

pub create_single : (name : List ℕ) → IsSingle (Create (name ∷ []))
create_single name =
    let path : List (List ℕ) = name ∷ [] in
    record {
      one = λ sizes number p accepted.
          let n : Files = with_names p.files (Create path) in
          let at = the_number (slot_of n path) (created_slot p.files name (create_none p.files path accepted).0) in (
            name_event n (stamp_of number p) kind.Link (Some (length n.contents - 1)) path PutName,
            refl,
            record { tells = (at.0, at.1, at.1, refl); keeps = refl },
          );
      grows = λ s.
          let named : Extends s (with_slot s path) = entry_extends s (entry_of s path) in
          extends_on s (with_slot s path) (files_after s (Create path)) named (alike (with_slot s path) (files_after s (Create path)) refl refl refl);
    }

pub link_single : (from to : List (List ℕ)) → IsSingle (Link from to)
link_single from to = record {
  one = λ sizes number p accepted.
      let n : Files = with_names p.files (Link from to) in (
        name_event n (stamp_of number p) kind.Link (file_of n from) to PutName,
        refl,
        record { tells = λ w h. cc; keeps = file_kept p.files (entry_of p.files to) from (file_present p.files from (link_none p.files from to accepted).0) },
      );
  grows = λ s.
      let named : Extends s (with_slot s to) = entry_extends s (entry_of s to) in
      extends_on s (with_slot s to) (files_after s (Link from to)) named (alike (with_slot s to) (files_after s (Link from to)) refl refl refl);
}

pub mark_single : (word : List ℕ) → IsSingle (Mark word)
mark_single word = record {
  one = λ sizes number p accepted.
      let words : List (List ℕ) = noted p.files.words word in
      let at = the_number (text_number words word) (noted_there p.files.words word) in (
        bare_event (stamp_of number p) kind.Mark (See (unwrap_or (text_number words word) 0)),
        refl,
        record { tells = (at.0, ap (λ (o : Option ℕ). See (unwrap_or o 0)) at.1, at.1); keeps = tt },
      );
  grows = λ s. word_extends s word;
}

pub sync_single : IsSingle Sync
sync_single = record {
  one = λ sizes number p accepted. (bare_event (stamp_of number p) kind.Sync Nothing, refl, record { tells = (refl, refl); keeps = tt });
  grows = λ s. alike s s refl refl refl;
}

pub truncate_single : (path : List (List ℕ)) (size : ℕ) → IsSingle (Truncate path size)
truncate_single path size = record {
  one = λ sizes number p accepted. (file_event (stamp_of number p) kind.Trunc (file_of p.files path) (Cut size), refl, record { tells = λ w h. cc; keeps = tt });
  grows = λ s. alike s (files_after s (Truncate path size)) refl refl refl;
}

pub attr_single : (path : List (List ℕ)) (key : List ℕ) (value : ℕ) → IsSingle (Attr path key value)
attr_single path key value = record {
  one = λ sizes number p accepted.
      let n : Files = with_names p.files (Attr path key value) in
      (file_event (stamp_of number p) kind.Attr (file_of n path) (SetAttr (unwrap_or (text_number n.keys key) 0) value), refl, record { tells = λ w h. cc; keeps = tt });
  grows = λ s.
      let n : Files = with_names s (Attr path key value) in
      extends_on s n (files_after s (Attr path key value)) (alike s n refl refl refl) (attr_extends n (file_of n path) (text_number n.keys key) value);
}

-- a text of one byte is one piece
one_piece : (sizes : Sizes) (at b : ℕ) → cut_up sizes at (b ∷ []) ≡ record { at = at; text = b ∷ [] } ∷ []
one_piece sizes at b = elim (cases_Bool (begins_there sizes (at + 1))) [
  | inl begins ↦ rw begins refl
  | inr goes_on ↦ rw goes_on refl
]

piece_tells : (b : Bool) (file : Option ℕ) (at size : ℕ) (text : List ℕ) → let effect : Effect = if b then Bytes at text else Grow at text size in SeesNothing effect × KeepsNames file effect
piece_tells true file at size text = (λ w h. cc, tt)
piece_tells false file at size text = (λ w h. cc, tt)

pub write_single : (path : List (List ℕ)) (at b : ℕ) → IsSingle (Write path at (b ∷ []))
write_single path at b = record {
  one = λ sizes number p accepted.
      let stamp : Stamp = stamp_of number p in
      let file : Option ℕ = file_of p.files path in
      let size : ℕ = size_of p.files file in
      let piece : Piece = record { at = at; text = b ∷ [] } in
      let told = piece_tells (nat_le (at + 1) size) file at (at + 1) (b ∷ []) in (
        piece_event sizes stamp file size piece,
        ap (piece_events sizes stamp file size) (one_piece sizes at b),
        record { tells = told.0; keeps = told.1 },
      );
  grows = λ s. alike s (files_after s (Write path at (b ∷ []))) refl refl refl;
}
