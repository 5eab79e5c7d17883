-- Names that a call uses have slots, and events of names fit.
use Rattle.std.proofs.Common.{◌≡◌, ℕ, ◌<◌, Bool, true, false, not, List, [], ◌∷◌, ◌++◌, length, get_or, Option, Some, None, is_some, IfSome, slice_get, refl, sym, ◌∙◌, ap, inl, inr, arith, length-append}
use Rattle.std.specs.Option.{option_map}
use Rattle.std.specs.Prelude.{option_and_then}
use Rattle.std.proofs.Math.Seq.{get_or-append_seam}
use Rattle.std.proofs.lemmas.Bool.{cases_Bool, true≢false}
use Rattle.std.proofs.lemmas.Option.{slice_get_cases}
use Rattle.fer_events.specs.declared.event.Event.{Event}
use Rattle.fer_events.specs.declared.event.Kind.{Kind}
use Rattle.fer_events.specs.declared.event.Effect.{Effect}
use Rattle.fer_events.specs.declared.tables.SlotName.{SlotName}
use Rattle.fer_events.specs.Tables.{Carried, carried_by, HasEffect, IsEventOf}
use Rattle.fer_events.specs.Truth.{item_at}
use Rattle.fer_events.proofs.GeneralPlaces.{passes_within}
use Rattle.call_events.specs.declared.files.Files.{Files}
use Rattle.call_events.specs.declared.making.Stamp.{Stamp}
use Rattle.fer_events.specs.Paths.{put_front, split_last, name_in, entry_number, same_entry}
use Rattle.call_events.specs.Found.{dir_number, is_dir, entry_of, slot_of, file_of}
use Rattle.call_events.specs.Refusals.{lacks_parent}
use Rattle.call_events.specs.Changes.{with_entry}
use Rattle.call_events.specs.CallEvents.{name_event}
use Rattle.call_events.specs.Runs.{now}
use Rattle.call_events.proofs.Whole.{entry_within, place_is, found_more, get_more, same_entry-refl}
use Rattle.call_events.proofs.Fitting.{entry_dir}

abbrev made : Stamp → Kind → Option ℕ → Effect → List SlotName → Option SlotName → Event
made stamp k file effect slots o = record { kind = k; file = file; block = None; dir = option_map (λ entry. entry.dir) o; slot = option_and_then (entry_number slots) o; call = stamp.call; txn = stamp.txn; effect = effect }

abbrev pub name_carried : Carried
name_carried = record { file = true; block = false; dir = true; slot = true }

made_fits : (n : Files) (stamp : Stamp) (k : Kind) (effect : Effect) (file : Option ℕ) (o : Option SlotName) → is_some file ≡ true → IfSome file (λ f. f < length n.contents)
    → ((e : SlotName) → o ≡ Some e → e.dir < length n.dirs) → is_some (option_and_then (entry_number n.slots) o) ≡ true → name_carried ≡ carried_by k → HasEffect (now n) k effect
    → IsEventOf (now n) (made stamp k file effect n.slots o)
made_fits n stamp k effect file None present there within slotted carry has = absurd (true≢false (sym slotted))
made_fits n stamp k effect file (Some e) present there within slotted carry has =
    let with_file : Bool → Carried = λ b. record { file = b; block = false; dir = true; slot = is_some (entry_number n.slots e) } in
    let with_slot : Bool → Carried = λ b. record { file = true; block = false; dir = true; slot = b } in
    record {
      carries = ap with_file present ∙ ap with_slot slotted ∙ carry;
      file_there = there;
      dir_there = within e refl;
      slot_there = entry_dir n.slots e (entry_number n.slots e) refl;
      effect = has;
    }

-- an event of a name that has a slot fits
pub name_fits : (n : Files) (stamp : Stamp) (k : Kind) (effect : Effect) (file : Option ℕ) (path : List (List ℕ)) → is_some file ≡ true → IfSome file (λ f. f < length n.contents)
    → is_some (slot_of n path) ≡ true → name_carried ≡ carried_by k → HasEffect (now n) k effect → IsEventOf (now n) (name_event n stamp k file path effect)
name_fits n stamp k effect file path present there slotted carry has =
    made_fits n stamp k effect file (entry_of n path) present there (entry_within n (split_last path)) slotted carry has

last_found : (slots : List SlotName) (e : SlotName) → is_some (entry_number (slots ++ e ∷ []) e) ≡ true
last_found slots e =
    let there : length slots < length (slots ++ e ∷ []) = omega (arith, length-append slots (e ∷ [])) in
    let passes : same_entry (get_or (slots ++ e ∷ []) (length slots) e) e ≡ true = ap (λ (x : SlotName). same_entry x e) (get_or-append_seam slots e [] e) ∙ same_entry-refl e in
    ap is_some (place_is (λ slot. same_entry slot e) (slots ++ e ∷ []) (passes_within (λ slot. same_entry slot e) (slots ++ e ∷ []) (length slots) e there passes))

-- a name has a slot behind its first use
pub slotted : (s : Files) (path : List (List ℕ)) (o : Option SlotName) → entry_of s path ≡ o → is_some o ≡ true → is_some (slot_of (with_entry s o) path) ≡ true
slotted s path None is some = absurd (true≢false (sym some))
slotted s path (Some e) is some = elim (cases_Bool (is_some (entry_number s.slots e))) [
  | inl old ↦ rw old (ap (λ (o : Option SlotName). is_some (option_and_then (entry_number s.slots) o)) is ∙ old)
  | inr new ↦ rw new (ap (λ (o : Option SlotName). is_some (option_and_then (entry_number (s.slots ++ e ∷ [])) o)) is ∙ last_found s.slots e)
]

dir_known : (o : Option ℕ) (name : List ℕ) → not (is_some o) ≡ false → is_some {T = SlotName} (option_map (λ dir. record { dir = dir; name = name }) o) ≡ true
dir_known None name h = absurd (true≢false h)
dir_known (Some d) name h = refl

split_known : (s : Files) (split : Option (List (List ℕ) × List ℕ)) → is_some split ≡ true → lacks_parent s split ≡ false → is_some (name_in s.dirs split) ≡ true
split_known s None some lacks = absurd (true≢false (sym some))
split_known s (Some (parent, name)) some lacks = dir_known (dir_number s parent) name lacks

front_some : {X : Type 0} (x : X) (o : Option (List X × X)) → is_some (put_front x o) ≡ true
front_some x None = refl
front_some x (Some (front, last)) = refl

-- a path whose parent is a directory and that isn't one itself is a name
pub is_name : (s : Files) (path : List (List ℕ)) → is_dir s [] ≡ true → is_dir s path ≡ false → lacks_parent s (split_last path) ≡ false → is_some (entry_of s path) ≡ true
is_name s [] root new parent = absurd (true≢false (sym root ∙ new))
is_name s (x ∷ xs) root new parent = split_known s (split_last (x ∷ xs)) (front_some x (split_last xs)) parent

kept_number : (slots : List SlotName) (held : List (Option ℕ)) (e e2 : SlotName) (o : Option ℕ) → entry_number slots e2 ≡ o → is_some (option_and_then (λ h. h) (item_at held o)) ≡ true
    → is_some (option_and_then (λ h. h) (item_at (held ++ None ∷ []) (entry_number (slots ++ e ∷ []) e2))) ≡ true
kept_number slots held e e2 None is h = absurd (true≢false (sym h))
kept_number slots held e e2 (Some k) is h =
    let same : entry_number (slots ++ e ∷ []) e2 ≡ Some k = found_more (λ slot. same_entry slot e2) slots (e ∷ []) (ap is_some is) ∙ is in
    let test : Option (Option ℕ) → Bool = λ o. is_some (option_and_then (λ h. h) o) in
    ap (λ (o : Option ℕ). test (item_at (held ++ None ∷ []) o)) same
    ∙ elim ((slice_get_cases held k).1) as (λ _. test (slice_get (held ++ None ∷ []) k) ≡ true) [
      | inl there ↦ ap test (get_more held (None ∷ []) k there.0 there.2 ∙ sym there.2) ∙ h
      | inr past ↦ absurd (true≢false (sym h ∙ ap test past.1))
    ]

kept_entry : (slots : List SlotName) (held : List (Option ℕ)) (e : SlotName) (o : Option SlotName) → is_some (option_and_then (λ h. h) (item_at held (option_and_then (entry_number slots) o))) ≡ true
    → is_some (option_and_then (λ h. h) (item_at (held ++ None ∷ []) (option_and_then (entry_number (slots ++ e ∷ [])) o))) ≡ true
kept_entry slots held e None h = absurd (true≢false (sym h))
kept_entry slots held e (Some e2) h = kept_number slots held e e2 (entry_number slots e2) refl h

-- a name more keeps that a path names a file
pub file_kept : (s : Files) (o : Option SlotName) (path : List (List ℕ)) → is_some (file_of s path) ≡ true → is_some (file_of (with_entry s o) path) ≡ true
file_kept s None path h = h
file_kept s (Some e) path h = elim (cases_Bool (is_some (entry_number s.slots e))) [
  | inl old ↦ rw old h
  | inr new ↦ rw new (kept_entry s.slots s.held e (entry_of s path) h)
]
