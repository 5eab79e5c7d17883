-- The events of a call that isn't refused fit the files, the names that it uses having their numbers.
use Rattle.std.proofs.Common.{◌≡◌, ℕ, ◌-◌, ◌<◌, Bool, true, false, not, ◌+◌, ◌||◌, List, [], ◌∷◌, ◌++◌, length, get_or, bytes_eq, Option, Some, None, is_some, IfSome, All, refl, sym, ◌∙◌, ap, inl, inr, arith, length-append}
use Rattle.std.specs.Prelude.{option_and_then, unwrap_or}
use Rattle.std.proofs.Math.Seq.{get_or-append_seam}
use Rattle.std.proofs.lemmas.Bool.{cases_Bool, true≢false}
use Rattle.std.proofs.lemmas.List.Elements.{All-nil, All-cons}
use Rattle.std.proofs.lemmas.List.Quantifiers.{position-Some}
use Rattle.litmus_syntax.specs.declared.call.Call.{Call}
use Rattle.litmus_syntax.specs.declared.call.Call.TheVariants.{Mkdir, Create, Write, Append, Truncate, Link, Unlink, Rename, Attr, Fsync, FsyncDir, Sync, Mark, Begin, Commit}
use Rattle.fer_events.specs.declared.event.Event.{Event}
use Rattle.fer_events.specs.declared.event.Kind.{Kind}
use Rattle.fer_events.specs.declared.event.Kind.TheVariants as kind
use Rattle.fer_events.specs.declared.event.Effect.{Effect}
use Rattle.fer_events.specs.declared.event.Effect.TheVariants.{Cut, SetAttr, PutName, ClearName, Nothing}
use Rattle.fer_events.specs.Tables.{Trace, Carried, carried_by, HasEffect, IsEventOf}
use Rattle.fer_events.specs.Truth.{item_at, text_number}
use Rattle.fer_events.proofs.GeneralPlaces.{passes_within}
use Rattle.call_events.specs.declared.files.Files.{Files}
use Rattle.call_events.specs.declared.making.Sizes.{Sizes}
use Rattle.call_events.specs.declared.making.Stamp.{Stamp}
use Rattle.call_events.specs.Found.{dir_number, is_dir, entry_of, slot_of, file_of, size_of}
use Rattle.call_events.specs.Refusals.{refusal, no_parent}
use Rattle.call_events.specs.declared.call_kind.CallKind.TheVariants.{NameTaken}
use Rattle.call_events.specs.Changes.{noted, with_slot, with_names, are_one}
use Rattle.call_events.specs.CallEvents.{file_event, name_event, dir_event, events_of}
use Rattle.call_events.specs.Small.{IsSmall}
use Rattle.call_events.specs.Runs.{IsConsistent, now}
use Rattle.call_events.proofs.Keeping.{create_none, link_none, rename_none, write_none, attr_none, file_present, test_fails, names_small, names_room, file_there}
use Rattle.call_events.proofs.Whole.{bytes_eq-refl, place_is, dir_within, right_fails}
use Rattle.call_events.proofs.NameFits.{name_fits, slotted, is_name, file_kept}
use Rattle.call_events.proofs.CallFits.{text_fits}

one : (t : Trace) (e : Event) → IsEventOf t e → All (IsEventOf t) (e ∷ [])
one t e h = All-cons (IsEventOf t) e [] h (All-nil (IsEventOf t))

file_fits : (n : Files) (stamp : Stamp) (k : Kind) (effect : Effect) (file : Option ℕ) → is_some file ≡ true → IfSome file (λ f. f < length n.contents)
    → ◌≡◌ {A = Carried} (record { file = true; block = false; dir = false; slot = false }) (carried_by k) → HasEffect (now n) k effect → IsEventOf (now n) (file_event stamp k file effect)
file_fits n stamp k effect file present there carry has =
    let carried : Bool → Carried = λ b. record { file = b; block = false; dir = false; slot = false } in
    record { carries = ap carried present ∙ carry; file_there = there; dir_there = tt; slot_there = tt; effect = has }

slot_from_file : (held : List (Option ℕ)) (slot : Option ℕ) → is_some (option_and_then (λ h. h) (item_at held slot)) ≡ true → is_some slot ≡ true
slot_from_file held None h = h
slot_from_file held (Some k) h = refl

number_there : (table : List (List ℕ)) (text : List ℕ) (o : Option ℕ) → text_number table text ≡ o → is_some o ≡ true → unwrap_or o 0 < length table
number_there table text None is some = absurd (true≢false (sym some))
number_there table text (Some k) is some = (position-Some (λ entry. bytes_eq entry text) table k [] is).0

last_text : (table : List (List ℕ)) (text : List ℕ) → is_some (text_number (table ++ text ∷ []) text) ≡ true
last_text table text =
    let there : length table < length (table ++ text ∷ []) = omega (arith, length-append table (text ∷ [])) in
    let passes : bytes_eq (get_or (table ++ text ∷ []) (length table) text) text ≡ true = ap (λ (x : List ℕ). bytes_eq x text) (get_or-append_seam table text [] text) ∙ bytes_eq-refl text in
    ap is_some (place_is (λ entry. bytes_eq entry text) (table ++ text ∷ []) (passes_within (λ entry. bytes_eq entry text) (table ++ text ∷ []) (length table) text there passes))

noted_found : (table : List (List ℕ)) (text : List ℕ) → unwrap_or (text_number (noted table text) text) 0 < length (noted table text)
noted_found table text = elim (cases_Bool (is_some (text_number table text))) [
  | inl old ↦ rw old (number_there table text (text_number table text) refl old)
  | inr new ↦ rw new (number_there (table ++ text ∷ []) text (text_number (table ++ text ∷ []) text) refl (last_text table text))
]

-- a new name's path
new_name : (s : Files) (path : List (List ℕ)) → IsConsistent s → no_parent s path ≡ None → is_dir s path ≡ false → is_some (slot_of (with_slot s path) path) ≡ true
new_name s path whole parent new = slotted s path (entry_of s path) refl (is_name s path whole.root new (test_fails _ _ parent))

dir_present : (o : Option ℕ) → not (is_some o) ≡ false → is_some o ≡ true
dir_present None h = absurd (true≢false h)
dir_present (Some d) h = refl

if_dir : (s : Files) (path : List (List ℕ)) (o : Option ℕ) → dir_number s path ≡ o → IfSome o (λ d. d < length s.dirs)
if_dir s path None h = tt
if_dir s path (Some d) h = dir_within s path d h

rename_fits : (sizes : Sizes) (stamp : Stamp) (n : Files) (from to : List (List ℕ)) → IsSmall n → is_some (file_of n from) ≡ true → is_some (slot_of n to) ≡ true → All (IsEventOf (now n)) (events_of sizes stamp n (Rename from to))
rename_fits sizes stamp n from to small present named = elim (cases_Bool (are_one n from to)) [
  | inl same ↦ rw same (All-nil (IsEventOf (now n)))
  | inr two ↦ rw two (
      All-cons (IsEventOf (now n)) (name_event n stamp kind.Link (file_of n from) to PutName) (name_event n stamp kind.Unlink (file_of n from) from ClearName ∷ [])
      (name_fits n stamp kind.Link PutName (file_of n from) to present (file_there n (slot_of n from) small) named refl tt)
      (one (now n) (name_event n stamp kind.Unlink (file_of n from) from ClearName)
      (name_fits n stamp kind.Unlink ClearName (file_of n from) from present (file_there n (slot_of n from) small) (slot_from_file n.held (slot_of n from) present) refl tt)))
]

-- the events of a call that isn't refused fit
pub call_fits : (sizes : Sizes) (stamp : Stamp) (s : Files) (call : Call) → IsSmall s → IsConsistent s → length s.words < 128 → refusal s call ≡ None
    → All (IsEventOf (now (with_names s call))) (events_of sizes stamp (with_names s call) call)
call_fits sizes stamp s (Mkdir path) small whole words accepted = All-nil (IsEventOf (now s))
call_fits sizes stamp s (Create path) small whole words accepted =
    let row = create_none s path accepted in
    let n : Files = with_names s (Create path) in
    let newest : length n.contents - 1 < length n.contents = omega (arith, length-append {A = List ℕ} (with_slot s path).contents ([] ∷ [])) in
    one (now n) _ (name_fits n stamp kind.Link PutName (Some (length n.contents - 1)) path refl newest
    (new_name s path whole row.0 (right_fails (is_some (file_of s path)) (is_dir s path) (test_fails (is_some (file_of s path) || is_dir s path) NameTaken row.1))) refl tt)
call_fits sizes stamp s (Write path at text) small whole words accepted =
    text_fits s sizes stamp (file_of s path) (size_of s (file_of s path)) at text (file_present s path (write_none s path (at + length text) accepted).0) (file_there s (slot_of s path) small) (names_room s (Write path at text) accepted)
call_fits sizes stamp s (Append path text) small whole words accepted =
    text_fits s sizes stamp (file_of s path) (size_of s (file_of s path)) (size_of s (file_of s path)) text (file_present s path (write_none s path (size_of s (file_of s path) + length text) accepted).0) (file_there s (slot_of s path) small) (names_room s (Append path text) accepted)
call_fits sizes stamp s (Truncate path size) small whole words accepted =
    one (now s) _ (file_fits s stamp kind.Trunc (Cut size) (file_of s path) (file_present s path (write_none s path size accepted).0) (file_there s (slot_of s path) small) refl (names_room s (Truncate path size) accepted))
call_fits sizes stamp s (Link from to) small whole words accepted =
    let n : Files = with_slot s to in
    let row = link_none s from to accepted in
    one (now n) _ (name_fits n stamp kind.Link PutName (file_of n from) to
    (file_kept s (entry_of s to) from (file_present s from row.0))
    (file_there n (slot_of n from) (names_small s (Link from to) small accepted words))
    (new_name s to whole row.1 (right_fails (is_some (file_of s to)) (is_dir s to) (test_fails (is_some (file_of s to) || is_dir s to) NameTaken row.2))) refl tt)
call_fits sizes stamp s (Unlink path) small whole words accepted =
    let present : is_some (file_of s path) ≡ true = file_present s path accepted in
    one (now s) _ (name_fits s stamp kind.Unlink ClearName (file_of s path) path present (file_there s (slot_of s path) small) (slot_from_file s.held (slot_of s path) present) refl tt)
call_fits sizes stamp s (Rename from to) small whole words accepted =
    let n : Files = with_slot s to in
    let row = rename_none s from to accepted in
    rename_fits sizes stamp n from to (names_small s (Rename from to) small accepted words)
    (file_kept s (entry_of s to) from (file_present s from row.0))
    (new_name s to whole row.1 (test_fails (is_dir s to) NameTaken row.2))
call_fits sizes stamp s (Attr path key value) small whole words accepted =
    let n : Files = with_names s (Attr path key value) in
    one (now n) _ (file_fits n stamp kind.Attr (SetAttr (unwrap_or (text_number n.keys key) 0) value) (file_of s path) (file_present s path (attr_none s path key value accepted).0) (file_there s (slot_of s path) small) refl (noted_found s.keys key))
call_fits sizes stamp s (Fsync path) small whole words accepted =
    one (now s) _ (file_fits s stamp kind.Fsync Nothing (file_of s path) (file_present s path accepted) (file_there s (slot_of s path) small) refl tt)
call_fits sizes stamp s (FsyncDir path) small whole words accepted =
    let carried : Bool → Carried = λ b. record { file = false; block = false; dir = b; slot = false } in
    one (now s) (dir_event stamp (dir_number s path)) (record {
      carries = ap carried (dir_present (dir_number s path) (test_fails _ _ accepted));
      file_there = tt;
      dir_there = if_dir s path (dir_number s path) refl;
      slot_there = tt;
      effect = tt;
    })
call_fits sizes stamp s Sync small whole words accepted =
    one (now s) _ (record { carries = refl; file_there = tt; dir_there = tt; slot_there = tt; effect = tt })
call_fits sizes stamp s (Mark word) small whole words accepted =
    one (now (with_names s (Mark word))) _ (record { carries = refl; file_there = tt; dir_there = tt; slot_there = tt; effect = noted_found s.words word })
call_fits sizes stamp s Begin small whole words accepted = All-nil (IsEventOf (now s))
call_fits sizes stamp s Commit small whole words accepted = All-nil (IsEventOf (now s))
