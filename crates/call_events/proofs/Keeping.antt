-- Calls that aren't refused keep the limits of files.
use Rattle.std.proofs.Common.{◌≡◌, ℕ, ◌+◌, ◌-◌, ◌<◌, ◌≤◌, Bool, true, false, ◌&&◌, ◌||◌, nat_le, nat_lt, List, [], ◌∷◌, ◌++◌, length, take, drop, replicate, Option, Some, None, is_some, is_none, IfSome, All, refl, sym, ◌∙◌, ap, subst, inl, inr, arith, length-append, length-take}
use Rattle.std.specs.Option.{option_or}
use Rattle.std.specs.Prelude.{option_and_then, unwrap_or}
use Rattle.std.proofs.lemmas.Bool.{cases_Bool}
use Rattle.std.proofs.lemmas.Bool.Decides.{nat_tests}
use Rattle.std.proofs.lemmas.List.{length-replicate, length-drop}
use Rattle.std.proofs.lemmas.List.Elements.{All-nil, All-push, All-weaker}
use Rattle.std.proofs.lemmas.Option.{slice_get_cases}
use Rattle.litmus_syntax.specs.declared.call.Call.{Call}
use Rattle.litmus_syntax.specs.declared.call.Call.TheVariants.{Mkdir, Create, Write, Append, Truncate, Link, Unlink, Rename, Attr, Fsync, FsyncDir, Sync, Mark, Begin, Commit}
use Rattle.fer_events.specs.declared.tables.SlotName.{SlotName}
use Rattle.fer_events.specs.States.{at_place}
use Rattle.fer_events.specs.Truth.{item_at, text_number}
use Rattle.fer_events.proofs.AtPlace.{length-at_place, All-at_place}
use Rattle.call_events.specs.declared.files.Files.{Files}
use Rattle.call_events.specs.declared.call_kind.CallKind.{CallKind}
use Rattle.call_events.specs.Running.{after_setup_call}
use Rattle.fer_events.specs.Paths.{entry_number}
use Rattle.call_events.specs.Found.{no_files, is_dir, entry_of, slot_of, file_of, content_of, size_of}
use Rattle.call_events.specs.Refusals.{kind_if, first_of, refusal, no_file, no_parent, taken, taken_by_dir, too_long, dirs_full, files_full, names_full, keys_full}
use Rattle.call_events.specs.declared.call_kind.CallKind.TheVariants.{NoSuchFile, NameTaken, FileTooLong, TooMany}
use Rattle.call_events.specs.Changes.{noted, with_entry, with_slot, with_new_file, with_names, resized, overwritten, with_file, with_attr, are_one, changed, files_after}
use Rattle.call_events.specs.Small.{IsSmall, CanTake}

pub or_second : (a b : Bool) → (a || b) ≡ false → b ≡ false
or_second true b h = cc
or_second false b h = h

-- where neither of two causes applies, neither does
pub first_none : (a b : Option CallKind) → option_or a b ≡ None → a ≡ None
first_none None b h = refl
first_none (Some k) b h = h

pub second_none : (a b : Option CallKind) → option_or a b ≡ None → b ≡ None
second_none None b h = h
second_none (Some k) b h = cc

pub test_fails : (test : Bool) (k : CallKind) → kind_if test k ≡ None → test ≡ false
test_fails true k h = cc
test_fails false k h = refl

-- a limit that isn't passed
pub below : (limit n : ℕ) → nat_le limit n ≡ false → n < limit
below limit n h = grind (arith, nat_tests)

pub within : (limit n : ℕ) → nat_lt limit n ≡ false → n ≤ limit
within limit n h = grind (arith, nat_tests)

none_is : {X : Type 0} (o : Option X) → is_some o ≡ false → is_none o ≡ true
none_is None h = refl
none_is (Some x) h = cc

and_first : (a b : Bool) → (a && b) ≡ false → a ≡ true → b ≡ false
and_first true b h e = h
and_first false b h e = cc

-- where a row of causes gives none, none of them applies
pub two_none : (a b : Option CallKind) → first_of (a ∷ b ∷ []) ≡ None → (a ≡ None) × (b ≡ None)
two_none None b h = (refl, first_none b None h)
two_none (Some k) b h = cc

pub three_none : (a b c : Option CallKind) → first_of (a ∷ b ∷ c ∷ []) ≡ None → (a ≡ None) × (b ≡ None) × (c ≡ None)
three_none None b c h = let rest = two_none b c h in (refl, rest.0, rest.1)
three_none (Some k) b c h = cc

pub four_none : (a b c d : Option CallKind) → first_of (a ∷ b ∷ c ∷ d ∷ []) ≡ None → (a ≡ None) × (b ≡ None) × (c ≡ None) × (d ≡ None)
four_none None b c d h = let rest = three_none b c d h in (refl, rest.0, rest.1, rest.2)
four_none (Some k) b c d h = cc

-- the rows of the calls
pub create_none : (s : Files) (path : List (List ℕ)) → refusal s (Create path) ≡ None → (no_parent s path ≡ None) × (taken s path ≡ None) × (files_full s ≡ None) × (names_full s path ≡ None)
create_none s path accepted = four_none (no_parent s path) (taken s path) (files_full s) (names_full s path) accepted

pub mkdir_none : (s : Files) (path : List (List ℕ)) → refusal s (Mkdir path) ≡ None → (no_parent s path ≡ None) × (taken s path ≡ None) × (dirs_full s ≡ None)
mkdir_none s path accepted = three_none (no_parent s path) (taken s path) (dirs_full s) accepted

pub link_none : (s : Files) (from to : List (List ℕ)) → refusal s (Link from to) ≡ None → (no_file s from ≡ None) × (no_parent s to ≡ None) × (taken s to ≡ None) × (names_full s to ≡ None)
link_none s from to accepted = four_none (no_file s from) (no_parent s to) (taken s to) (names_full s to) accepted

pub rename_none : (s : Files) (from to : List (List ℕ)) → refusal s (Rename from to) ≡ None → (no_file s from ≡ None) × (no_parent s to ≡ None) × (taken_by_dir s to ≡ None) × (names_full s to ≡ None)
rename_none s from to accepted = four_none (no_file s from) (no_parent s to) (taken_by_dir s to) (names_full s to) accepted

pub write_none : (s : Files) (path : List (List ℕ)) (end : ℕ) → first_of (no_file s path ∷ too_long end ∷ []) ≡ None → (no_file s path ≡ None) × (end ≤ 65536)
write_none s path end accepted =
    let row = two_none (no_file s path) (too_long end) accepted in
    (row.0, within 65536 end (test_fails (nat_lt 65536 end) FileTooLong row.1))

pub attr_none : (s : Files) (path : List (List ℕ)) (key : List ℕ) (value : ℕ) → refusal s (Attr path key value) ≡ None → (no_file s path ≡ None) × (keys_full s key ≡ None)
attr_none s path key value accepted = two_none (no_file s path) (keys_full s key) accepted

pub file_present : (s : Files) (path : List (List ℕ)) → no_file s path ≡ None → is_some (file_of s path) ≡ true
file_present s path h = is_there (file_of s path) (test_fails (is_none (file_of s path)) NoSuchFile h)
  where
    is_there : (o : Option ℕ) → is_none o ≡ false → is_some o ≡ true
    is_there None h = cc
    is_there (Some f) h = refl

-- a name more
entry_noted : (s : Files) (e : SlotName) → IsSmall s → length s.slots < 64
    → IsSmall (record s { slots = s.slots ++ e ∷ []; held = s.held ++ None ∷ [] })
entry_noted s e small room = record {
  dirs = small.dirs;
  slots = omega (arith, length-append s.slots (e ∷ []));
  held = omega (arith, length-append s.slots (e ∷ []), length-append {A = Option ℕ} s.held (None ∷ []), small.held);
  files = small.files;
  files_there = All-push (λ held. IfSome held (λ f. f < length s.contents)) s.held None small.files_there tt;
  contents = small.contents;
  keys = small.keys;
  words = small.words;
}

entry_small : (s : Files) (o : Option SlotName) → IsSmall s → (is_none (option_and_then (entry_number s.slots) o) && nat_le 64 (length s.slots)) ≡ false → IsSmall (with_entry s o)
entry_small s None small room = small
entry_small s (Some e) small room = elim (cases_Bool (is_some (entry_number s.slots e))) [
  | inl old ↦ rw old small
  | inr new ↦ rw new (entry_noted s e small (below 64 (length s.slots) (and_first _ _ room (none_is (entry_number s.slots e) new))))
]

slot_small : (s : Files) (path : List (List ℕ)) → IsSmall s → names_full s path ≡ None → IsSmall (with_slot s path)
slot_small s path small room = entry_small s (entry_of s path) small (test_fails _ _ room)

entry_contents : (s : Files) (o : Option SlotName) → (with_entry s o).contents ≡ s.contents
entry_contents s None = refl
entry_contents s (Some e) = elim (cases_Bool (is_some (entry_number s.slots e))) [ inl old ↦ rw old refl | inr new ↦ rw new refl ]

-- a file more
file_small : (s : Files) → IsSmall s → length s.contents < 32 → IsSmall (with_new_file s)
file_small s small room =
    let more = length-append {A = List ℕ} s.contents ([] ∷ []) in
    record {
      dirs = small.dirs;
      slots = small.slots;
      held = small.held;
      files = omega (arith, more);
      files_there = All-weaker (λ held. IfSome held (λ f. f < length s.contents)) (λ held. IfSome held (λ f. f < length (s.contents ++ [] ∷ []))) (λ held. wider held) s.held small.files_there;
      contents = All-push (λ content. length content ≤ 65536) s.contents [] small.contents (omega arith);
      keys = small.keys;
      words = small.words;
    }
  where
    wider : (held : Option ℕ) → IfSome held (λ f. f < length s.contents) → IfSome held (λ f. f < length (s.contents ++ [] ∷ []))
    wider None h = tt
    wider (Some f) h = omega (arith, length-append {A = List ℕ} s.contents ([] ∷ []))

length-noted : (table : List (List ℕ)) (text : List ℕ) (limit : ℕ) → length table ≤ limit → (is_none (text_number table text) && nat_le limit (length table)) ≡ false → length (noted table text) ≤ limit
length-noted table text limit few room = elim (cases_Bool (is_some (text_number table text))) [
  | inl old ↦ rw old few
  | inr new ↦ rw new (omega (arith, length-append table (text ∷ []), below limit (length table) (and_first _ _ room (none_is (text_number table text) new))))
]

-- one text more at most
pub length-noted_text : (table : List (List ℕ)) (text : List ℕ) → length (noted table text) ≤ length table + 1
length-noted_text table text = elim (cases_Bool (is_some (text_number table text))) [
  | inl old ↦ rw old (omega arith)
  | inr new ↦ rw new (omega (arith, length-append table (text ∷ [])))
]

-- numbers for new names keep the limits where a call isn't refused
pub names_small : (s : Files) (call : Call) → IsSmall s → refusal s call ≡ None → length s.words < 128 → IsSmall (with_names s call)
names_small s (Mkdir path) small accepted words = small
names_small s (Create path) small accepted words =
    let row = create_none s path accepted in
    file_small (with_slot s path) (slot_small s path small row.3)
    (let same = ap length (entry_contents s (entry_of s path)) in omega (arith, same, below 32 (length s.contents) (test_fails (nat_le 32 (length s.contents)) TooMany row.2)))
names_small s (Write path at text) small accepted words = small
names_small s (Append path text) small accepted words = small
names_small s (Truncate path size) small accepted words = small
names_small s (Link from to) small accepted words = slot_small s to small (link_none s from to accepted).3
names_small s (Unlink path) small accepted words = small
names_small s (Rename from to) small accepted words = slot_small s to small (rename_none s from to accepted).3
names_small s (Attr path key value) small accepted words = record {
  dirs = small.dirs;
  slots = small.slots;
  held = small.held;
  files = small.files;
  files_there = small.files_there;
  contents = small.contents;
  keys = length-noted s.keys key 16 small.keys (test_fails (is_none (text_number s.keys key) && nat_le 16 (length s.keys)) TooMany (attr_none s path key value accepted).1);
  words = small.words;
}
names_small s (Fsync path) small accepted words = small
names_small s (FsyncDir path) small accepted words = small
names_small s Sync small accepted words = small
names_small s Begin small accepted words = small
names_small s Commit small accepted words = small
names_small s (Mark word) small accepted words = record {
  dirs = small.dirs;
  slots = small.slots;
  held = small.held;
  files = small.files;
  files_there = small.files_there;
  contents = small.contents;
  keys = small.keys;
  words = omega (arith, length-noted_text s.words word);
}

-- a call that isn't refused has room
pub names_room : (s : Files) (call : Call) → refusal s call ≡ None → CanTake (with_names s call) call
names_room s (Mkdir path) accepted =
    let row = mkdir_none s path accepted in
    (below 16 (length s.dirs) (test_fails (nat_le 16 (length s.dirs)) TooMany row.2), or_second (is_some (file_of s path)) (is_dir s path) (test_fails (is_some (file_of s path) || is_dir s path) NameTaken row.1))
names_room s (Create path) accepted = omega (arith, length-append {A = List ℕ} (with_slot s path).contents ([] ∷ []))
names_room s (Write path at text) accepted = (write_none s path (at + length text) accepted).1
names_room s (Append path text) accepted = (write_none s path (size_of s (file_of s path) + length text) accepted).1
names_room s (Truncate path size) accepted = (write_none s path size accepted).1
names_room s (Link from to) accepted = tt
names_room s (Unlink path) accepted = tt
names_room s (Rename from to) accepted = tt
names_room s (Attr path key value) accepted = tt
names_room s (Fsync path) accepted = tt
names_room s (FsyncDir path) accepted = tt
names_room s Sync accepted = tt
names_room s Begin accepted = tt
names_room s Commit accepted = tt
names_room s (Mark word) accepted = tt

pub length-resized : (size : ℕ) (content : List ℕ) → length (resized size content) ≡ size
length-resized size content =
    omega (arith, length-append (take size content) (replicate (size - length content) 0), length-take size content, length-replicate {A = ℕ} (size - length content) 0)

length-three : (xs ys zs : List ℕ) → length (xs ++ ys ++ zs) ≡ length xs + (length ys + length zs)
length-three xs ys zs = simp length-append (omega arith)

length-overwritten : (at : ℕ) (text content : List ℕ) → at + length text ≤ 65536 → length content ≤ 65536 → length (overwritten at text content) ≤ 65536
length-overwritten at [] content room fits = fits
length-overwritten at (b ∷ bs) content room fits =
    let tail : List ℕ = drop (at + length (b ∷ bs)) content in
    let whole : length (overwritten at (b ∷ bs) content) ≡ length (resized at content) + (length (b ∷ bs) + length tail) =
    length-three (resized at content) (b ∷ bs) (drop (at + length (b ∷ bs)) content) in
    omega (arith, length-resized at content, length-drop (at + length (b ∷ bs)) content)

-- a file's content fits
pub content_fits : (s : Files) (file : Option ℕ) → IsSmall s → length (content_of s file) ≤ 65536
content_fits s None small = omega arith
content_fits s (Some f) small = elim ((slice_get_cases s.contents f).1) [
  | inl there ↦ let P : Option (List ℕ) → Type 0 = λ o. length (unwrap_or o []) ≤ 65536 in
      subst P (sym there.2) (let Q : List ℕ → Type 0 = λ c. length c ≤ 65536 in subst Q there.3 (small.contents f there.0 there.1))
  | inr past ↦ let P : Option (List ℕ) → Type 0 = λ o. length (unwrap_or o []) ≤ 65536 in subst P (sym past.1) (omega arith)
]

content_small : (s : Files) (file : Option ℕ) (change : List ℕ → List ℕ) → IsSmall s → ((content : List ℕ) → length content ≤ 65536 → length (change content) ≤ 65536)
    → IsSmall (record s { contents = at_place file change s.contents })
content_small s file change small fits =
    let same : length (at_place file change s.contents) ≡ length s.contents = length-at_place file change s.contents in
    record {
      dirs = small.dirs;
      slots = small.slots;
      held = small.held;
      files = omega (arith, same);
      files_there = let P : ℕ → Type 0 = λ n. All (λ held. IfSome held (λ f. f < n)) s.held in subst P (sym same) small.files_there;
      contents = All-at_place (λ content. length content ≤ 65536) file change s.contents fits small.contents;
      keys = small.keys;
      words = small.words;
    }

held_small : (s : Files) (path : List (List ℕ)) (file : Option ℕ) → IsSmall s → IfSome file (λ f. f < length s.contents) → IsSmall (with_file s path file)
held_small s path file small there = record {
  dirs = small.dirs;
  slots = small.slots;
  held = length-at_place (slot_of s path) (λ _. file) s.held ∙ small.held;
  files = small.files;
  files_there = All-at_place (λ held. IfSome held (λ f. f < length s.contents)) (slot_of s path) (λ _. file) s.held (λ held h. there) small.files_there;
  contents = small.contents;
  keys = small.keys;
  words = small.words;
}

-- a path names a file that is there
pub file_there : (s : Files) (place : Option ℕ) → IsSmall s → IfSome (option_and_then (λ held. held) (item_at s.held place)) (λ f. f < length s.contents)
file_there s None small = tt
file_there s (Some k) small = elim ((slice_get_cases s.held k).1) [
  | inl there ↦ let P : Option (Option ℕ) → Type 0 = λ o. IfSome (option_and_then (λ held. held) o) (λ f. f < length s.contents) in
      subst P (sym there.2) (let Q : Option ℕ → Type 0 = λ h. IfSome h (λ f. f < length s.contents) in subst Q there.3 (small.files_there k there.0 there.1))
  | inr past ↦ let P : Option (Option ℕ) → Type 0 = λ o. IfSome (option_and_then (λ held. held) o) (λ f. f < length s.contents) in subst P (sym past.1) tt
]

-- a name that comes to hold a path's file keeps the limits
pub link_small : (s t : Files) (from to : List (List ℕ)) (file : Option ℕ) → file ≡ file_of s from → t ≡ with_file s to file → IsSmall s → IsSmall t
link_small s t from to file is_file is small =
    subst IsSmall (sym (is ∙ ap (with_file s to) is_file)) (held_small s to (file_of s from) small (file_there s (slot_of s from) small))

attr_small : (s : Files) (file key : Option ℕ) (value : ℕ) → IsSmall s → IsSmall (with_attr s file key value)
attr_small s None key value small = small
attr_small s (Some f) None value small = small
attr_small s (Some f) (Some k) value small = record {
  dirs = small.dirs;
  slots = small.slots;
  held = small.held;
  files = small.files;
  files_there = small.files_there;
  contents = small.contents;
  keys = small.keys;
  words = small.words;
}

rename_small : (s : Files) (from to : List (List ℕ)) → IsSmall s → IsSmall (changed s (Rename from to))
rename_small s from to small = elim (cases_Bool (are_one s from to)) [
  | inl one ↦ rw one small
  | inr two ↦ rw two (held_small (with_file s to (file_of s from)) from None (held_small s to (file_of s from) small (file_there s (slot_of s from) small)) tt)
]

-- a call with room keeps the limits
pub changed_small : (s : Files) (call : Call) → IsSmall s → CanTake s call → IsSmall (changed s call)
changed_small s (Mkdir path) small room = record {
  dirs = omega (arith, length-append s.dirs (path ∷ []));
  slots = small.slots;
  held = small.held;
  files = small.files;
  files_there = small.files_there;
  contents = small.contents;
  keys = small.keys;
  words = small.words;
}
changed_small s (Create path) small room = held_small s path (Some (length s.contents - 1)) small (omega arith)
changed_small s (Write path at text) small room = content_small s (file_of s path) (overwritten at text) small (λ content fits. length-overwritten at text content room fits)
changed_small s (Append path text) small room =
    let size : ℕ = size_of s (file_of s path) in
    content_small s (file_of s path) (overwritten size text) small (λ content fits. length-overwritten size text content room fits)
changed_small s (Truncate path size) small room = content_small s (file_of s path) (resized size) small (λ content fits. omega (arith, length-resized size content, room))
changed_small s (Link from to) small room = held_small s to (file_of s from) small (file_there s (slot_of s from) small)
changed_small s (Unlink path) small room = held_small s path None small tt
changed_small s (Rename from to) small room = rename_small s from to small
changed_small s (Attr path key value) small room = attr_small s (file_of s path) (text_number s.keys key) value small
changed_small s (Fsync path) small room = small
changed_small s (FsyncDir path) small room = small
changed_small s Sync small room = small
changed_small s Begin small room = small
changed_small s Commit small room = small
changed_small s (Mark word) small room = small

entry_words : (s : Files) (o : Option SlotName) → (with_entry s o).words ≡ s.words
entry_words s None = refl
entry_words s (Some e) = elim (cases_Bool (is_some (entry_number s.slots e))) [ inl old ↦ rw old refl | inr new ↦ rw new refl ]

attr_words : (s : Files) (file key : Option ℕ) (value : ℕ) → (with_attr s file key value).words ≡ s.words
attr_words s None key value = refl
attr_words s (Some f) None value = refl
attr_words s (Some f) (Some k) value = refl

rename_words : (s : Files) (from to : List (List ℕ)) → (changed s (Rename from to)).words ≡ s.words
rename_words s from to = elim (cases_Bool (are_one s from to)) [ inl one ↦ rw one refl | inr two ↦ rw two refl ]

-- the setup marks no word
pub setup_words : (s : Files) (call : Call) → (after_setup_call s call).words ≡ s.words
setup_words s (Mkdir path) = refl
setup_words s (Create path) = entry_words s (entry_of s path)
setup_words s (Write path at text) = refl
setup_words s (Append path text) = refl
setup_words s (Truncate path size) = refl
setup_words s (Link from to) = entry_words s (entry_of s to)
setup_words s (Unlink path) = refl
setup_words s (Rename from to) = rename_words (with_slot s to) from to ∙ entry_words s (entry_of s to)
setup_words s (Attr path key value) = attr_words (with_names s (Attr path key value)) (file_of (with_names s (Attr path key value)) path) (text_number (noted s.keys key) key) value
setup_words s (Fsync path) = refl
setup_words s (FsyncDir path) = refl
setup_words s Sync = refl
setup_words s Begin = refl
setup_words s Commit = refl
setup_words s (Mark word) = refl

pub names_small_at : (s t : Files) (call : Call) → t ≡ with_names s call → IsSmall s → refusal s call ≡ None → s.words ≡ [] → IsSmall t
names_small_at s t call is small accepted unmarked = subst IsSmall (sym is) (names_small s call small accepted (let none = ap length unmarked in omega (arith, none)))

pub names_room_at : (s t : Files) (call : Call) → t ≡ with_names s call → refusal s call ≡ None → CanTake t call
names_room_at s t call is accepted = let P : Files → Type 0 = λ u. CanTake u call in subst P (sym is) (names_room s call accepted)

-- a call that isn't refused keeps the limits
pub after_small : (s : Files) (call : Call) → IsSmall s → refusal s call ≡ None → length s.words < 128 → IsSmall (files_after s call)
after_small s call small accepted words = changed_small (with_names s call) call (names_small s call small accepted words) (names_room s call accepted)

pub setup_small : (s : Files) (call : Call) → IsSmall s → refusal s call ≡ None → s.words ≡ [] → IsSmall (after_setup_call s call)
setup_small s (Mark word) small accepted unmarked = small
setup_small s call small accepted unmarked = after_small s call small accepted (let none = ap length unmarked in omega (arith, none))

-- the files before all calls
pub nothing_small : IsSmall no_files
nothing_small = record {
  dirs = omega arith;
  slots = omega arith;
  held = refl;
  files = omega arith;
  files_there = All-nil (λ held. IfSome held (λ f. f < 0));
  contents = All-nil (λ content. length content ≤ 65536);
  keys = omega arith;
  words = omega arith;
}
