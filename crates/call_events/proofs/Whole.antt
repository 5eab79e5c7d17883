-- Calls that aren't refused keep files whole: nothing is named twice, and every number names a thing that is there.
use Rattle.std.proofs.Common.{◌≡◌, ◌≢◌, ℕ, zero, suc, ◌+◌, ◌<◌, ◌≤◌, Bool, true, false, ◌&&◌, ◌||◌, ◌==◌, List, [], ◌∷◌, ◌++◌, length, get_or, bytes_eq, Option, Some, None, is_some, slice_get, ltb, set, IfSome, refl, sym, ◌∙◌, ap, inl, inr, arith, length-append}
use Rattle.std.specs.List.{AllPairs, position, position_or_len}
use Rattle.std.specs.Option.{option_map, option_map_or}
use Rattle.std.proofs.lemmas.Bool.{cases_eq, cases_Bool, cond-true, cond-false, lt-ltb, true≢false, and_from}
use Rattle.std.proofs.lemmas.Bool.Decides.{nat_tests}
use Rattle.std.proofs.lemmas.List.{get_or_append_left, get_or_default, get_or-set_same, get_or-set_other, length-set}
use Rattle.std.proofs.lemmas.List.Elements.{All-nil, All-push, All-set, All-weaker}
use Rattle.std.proofs.lemmas.List.Quantifiers.{all_pairs_push, position-Some}
use Rattle.std.proofs.lemmas.Option.{slice_get_within, slice_get-get_or}
use Rattle.litmus_syntax.specs.declared.call.Call.{Call}
use Rattle.litmus_syntax.specs.declared.call.Call.TheVariants.{Mkdir, Create, Write, Append, Truncate, Link, Unlink, Rename, Attr, Fsync, FsyncDir, Sync, Mark, Begin, Commit}
use Rattle.fer_events.specs.declared.tables.SlotName.{SlotName}
use Rattle.fer_events.specs.declared.tables.AttrValue.{AttrValue}
use Rattle.fer_events.specs.States.{at_place}
use Rattle.fer_events.specs.Paths.{same_path}
use Rattle.fer_events.specs.Truth.{text_number}
use Rattle.fer_events.proofs.AtPlace.{length-at_place}
use Rattle.fer_events.proofs.GeneralPlaces.{fresh}
use Rattle.call_events.specs.declared.files.Files.{Files}
use Rattle.fer_events.specs.Paths.{entry_number, same_entry, name_in, split_last}
use Rattle.call_events.specs.Found.{dir_number, is_dir, entry_of, slot_of, file_of, size_of, no_files}
use Rattle.call_events.specs.Refusals.{refusal}
use Rattle.call_events.specs.declared.call_kind.CallKind.TheVariants.{NameTaken}
use Rattle.call_events.specs.Changes.{noted, with_entry, with_slot, with_new_file, with_names, resized, overwritten, with_file, with_value, value_place, with_attr, are_one, changed, files_after}
use Rattle.call_events.specs.Runs.{IsConsistent, Grows}
use Rattle.call_events.proofs.Keeping.{mkdir_none, test_fails, file_there, names_small}
use Rattle.call_events.specs.Small.{IsSmall}
use Rattle.call_events.specs.Running.{after_setup_call}

pub bytes_eq-refl : (text : List ℕ) → bytes_eq text text ≡ true
bytes_eq-refl [] = refl
bytes_eq-refl (b ∷ bs) = grind (arith, nat_tests, bytes_eq-refl bs)

same_path-refl : (path : List (List ℕ)) → same_path path path ≡ true
same_path-refl [] = refl
same_path-refl (x ∷ xs) = and_from (bytes_eq x x) (same_path xs xs) (bytes_eq-refl x) (same_path-refl xs)

pub same_entry-refl : (e : SlotName) → same_entry e e ≡ true
same_entry-refl e = and_from (e.dir == e.dir) (bytes_eq e.name e.name) (grind (arith, nat_tests)) (bytes_eq-refl e.name)

place_more : {X : Type 0} (p : X → Bool) (xs ys : List X) → position_or_len p xs < length xs → position_or_len p (xs ++ ys) ≡ position_or_len p xs
place_more p [] ys h = absurd (omega arith)
place_more p (x ∷ xs) ys h = elim (cases_Bool (p x)) [
  | inl e ↦ rw e refl
  | inr e ↦ rw e (ap (λ (n : ℕ). 1 + n) (place_more p xs ys (omega (arith, rw e at h))))
]

place_within : {X : Type 0} (p : X → Bool) (xs : List X) → is_some (position p xs) ≡ true → position_or_len p xs < length xs
place_within p xs h = elim (cases_Bool (ltb (position_or_len p xs) (length xs))) [
  | inl e ↦ grind (arith, nat_tests, e)
  | inr e ↦ absurd (true≢false (sym h ∙ ap is_some (cond-false (ltb (position_or_len p xs) (length xs)) (Some (position_or_len p xs)) None e)))
]

pub place_is : {X : Type 0} (p : X → Bool) (xs : List X) → position_or_len p xs < length xs → position p xs ≡ Some (position_or_len p xs)
place_is p xs h = cond-true (ltb (position_or_len p xs) (length xs)) _ _ (lt-ltb _ _ h)

-- what is found in a list is found in a longer one
pub found_more : {X : Type 0} (p : X → Bool) (xs ys : List X) → is_some (position p xs) ≡ true → position p (xs ++ ys) ≡ position p xs
found_more p xs ys h =
    let within = place_within p xs h in
    let more = place_more p xs ys within in
    place_is p (xs ++ ys) (omega (arith, within, more, length-append xs ys)) ∙ ap Some more ∙ sym (place_is p xs within)

-- a new item behind a list without it
push_once : {X : Type 0} (p : X → X → Bool) (xs : List X) (y : X) → ((x : X) → p x x ≡ true) → is_some (position (λ x. p x y) xs) ≡ false → AllPairs (λ a b. a ≢ b) xs → AllPairs (λ a b. a ≢ b) (xs ++ y ∷ [])
push_once p xs y same none once = all_pairs_push (λ a b. a ≢ b) xs y once
    (λ k d there is. fresh (λ x. p x y) xs none k d there (ap (λ (x : _). p x y) is ∙ same y))

pub get_more : {X : Type 0} (xs ys : List X) (k : ℕ) (x : X) → slice_get xs k ≡ Some x → slice_get (xs ++ ys) k ≡ Some x
get_more xs ys k x h =
    let there : k < length xs = slice_get_within xs k x h in
    slice_get-get_or (xs ++ ys) k x (omega (arith, there, length-append xs ys))
    ∙ ap Some (get_or_append_left xs ys x k there)
    ∙ sym (slice_get-get_or xs k x there) ∙ h

pub grows_same : (s : Files) → Grows s s
grows_same s = record { files = omega arith; dirs = omega arith; keys = omega arith; words = omega arith; count = omega arith; slots = λ k n h. h }

pub grows_on : (s t u : Files) → Grows s t → Grows t u → Grows s u
grows_on s t u a b = record {
  files = omega (arith, a.files, b.files);
  dirs = omega (arith, a.dirs, b.dirs);
  keys = omega (arith, a.keys, b.keys);
  words = omega (arith, a.words, b.words);
  count = omega (arith, a.count, b.count);
  slots = λ k n h. b.slots k n (a.slots k n h);
}

-- what a change keeps
abbrev pub Keeps : Files → Files → Type 0
Keeps s t = IsConsistent t × Grows s t

entry_new : (s : Files) (e : SlotName) → IsConsistent s → e.dir < length s.dirs → is_some (entry_number s.slots e) ≡ false
    → Keeps s (record s { slots = s.slots ++ e ∷ []; held = s.held ++ None ∷ [] })
entry_new s e whole there none = (
  record {
    attrs_there = whole.attrs_there;
    attrs_once = whole.attrs_once;
    dirs_there = All-push (λ slot. slot.dir < length s.dirs) s.slots e whole.dirs_there there;
    dirs_once = whole.dirs_once;
    slots_once = push_once same_entry s.slots e same_entry-refl none whole.slots_once;
    keys_once = whole.keys_once;
    words_once = whole.words_once;
    root = whole.root;
  },
  record {
    files = omega arith;
    dirs = omega arith;
    keys = omega arith;
    words = omega arith;
    count = omega (arith, length-append s.slots (e ∷ []));
    slots = λ k n h. get_more s.slots (e ∷ []) k n h;
  },
)

entry_whole : (s : Files) (o : Option SlotName) → IsConsistent s → ((e : SlotName) → o ≡ Some e → e.dir < length s.dirs) → Keeps s (with_entry s o)
entry_whole s None whole there = (whole, grows_same s)
entry_whole s (Some e) whole there = elim (cases_Bool (is_some (entry_number s.slots e))) [
  | inl old ↦ rw old (whole, grows_same s)
  | inr new ↦ rw new (entry_new s e whole (there e refl) new)
]

-- an entry's directory is there
pub dir_within : (s : Files) (parent : List (List ℕ)) (d : ℕ) → dir_number s parent ≡ Some d → d < length s.dirs
dir_within s parent d h = (position-Some (λ dir. same_path dir parent) s.dirs d [] h).0

named_within : (s : Files) (o : Option ℕ) (name : List ℕ) (e : SlotName) → ((d : ℕ) → o ≡ Some d → d < length s.dirs) → option_map (λ dir. record { dir = dir; name = name }) o ≡ Some e → e.dir < length s.dirs
named_within s None name e within h = cc
named_within s (Some d) name e within h =
    let same : d ≡ e.dir = ap (λ (o : Option SlotName). option_map_or (λ n. n.dir) o 0) h in
    omega (arith, within d refl, same)

pub entry_within : (s : Files) (split : Option (List (List ℕ) × List ℕ)) (e : SlotName) → name_in s.dirs split ≡ Some e → e.dir < length s.dirs
entry_within s None e h = cc
entry_within s (Some (parent, name)) e h = named_within s (dir_number s parent) name e (dir_within s parent) h

pub slot_whole : (s : Files) (path : List (List ℕ)) → IsConsistent s → Keeps s (with_slot s path)
slot_whole s path whole = entry_whole s (entry_of s path) whole (entry_within s (split_last path))

file_whole : (s : Files) → IsConsistent s → Keeps s (with_new_file s)
file_whole s whole =
    let more = length-append {A = List ℕ} s.contents ([] ∷ []) in (
      record {
        attrs_there = All-weaker (λ a. (a.file < length s.contents) × (a.key < length s.keys)) (λ a. (a.file < length (s.contents ++ [] ∷ [])) × (a.key < length s.keys)) (λ a h. (omega (arith, h.0, more), h.1)) s.attrs whole.attrs_there;
        attrs_once = whole.attrs_once;
        dirs_there = whole.dirs_there;
        dirs_once = whole.dirs_once;
        slots_once = whole.slots_once;
        keys_once = whole.keys_once;
        words_once = whole.words_once;
        root = whole.root;
      },
      record { files = omega (arith, more); dirs = omega arith; keys = omega arith; words = omega arith; count = omega arith; slots = λ k n h. h },
    )

noted_once : (table : List (List ℕ)) (text : List ℕ) → AllPairs (λ a b. a ≢ b) table → AllPairs (λ a b. a ≢ b) (noted table text)
noted_once table text once = elim (cases_Bool (is_some (text_number table text))) [
  | inl old ↦ rw old once
  | inr new ↦ rw new (push_once bytes_eq table text bytes_eq-refl new once)
]

noted_grows : (table : List (List ℕ)) (text : List ℕ) → length table ≤ length (noted table text)
noted_grows table text = elim (cases_Bool (is_some (text_number table text))) [
  | inl old ↦ rw old (omega arith)
  | inr new ↦ rw new (omega (arith, length-append table (text ∷ [])))
]

key_whole : (s : Files) (key : List ℕ) → IsConsistent s → Keeps s (record s { keys = noted s.keys key })
key_whole s key whole =
    let more = noted_grows s.keys key in (
      record {
        attrs_there = All-weaker (λ a. (a.file < length s.contents) × (a.key < length s.keys)) (λ a. (a.file < length s.contents) × (a.key < length (noted s.keys key))) (λ a h. (h.0, omega (arith, h.1, more))) s.attrs whole.attrs_there;
        attrs_once = whole.attrs_once;
        dirs_there = whole.dirs_there;
        dirs_once = whole.dirs_once;
        slots_once = whole.slots_once;
        keys_once = noted_once s.keys key whole.keys_once;
        words_once = whole.words_once;
        root = whole.root;
      },
      record { files = omega arith; dirs = omega arith; keys = more; words = omega arith; count = omega arith; slots = λ k n h. h },
    )

word_whole : (s : Files) (word : List ℕ) → IsConsistent s → Keeps s (record s { words = noted s.words word })
word_whole s word whole = (
  record {
    attrs_there = whole.attrs_there;
    attrs_once = whole.attrs_once;
    dirs_there = whole.dirs_there;
    dirs_once = whole.dirs_once;
    slots_once = whole.slots_once;
    keys_once = whole.keys_once;
    words_once = noted_once s.words word whole.words_once;
    root = whole.root;
  },
  record { files = omega arith; dirs = omega arith; keys = omega arith; words = noted_grows s.words word; count = omega arith; slots = λ k n h. h },
)

-- the files with a new file and its name
created_whole : (s t : Files) → Keeps s t → Keeps s (with_new_file t)
created_whole s t (whole, grown) = let made = file_whole t whole in (made.0, grows_on s t (with_new_file t) grown made.1)

-- numbers for new names keep files whole
pub names_whole : (s : Files) (call : Call) → IsConsistent s → Keeps s (with_names s call)
names_whole s (Mkdir path) whole = (whole, grows_same s)
names_whole s (Create path) whole = created_whole s (with_slot s path) (slot_whole s path whole)
names_whole s (Write path at text) whole = (whole, grows_same s)
names_whole s (Append path text) whole = (whole, grows_same s)
names_whole s (Truncate path size) whole = (whole, grows_same s)
names_whole s (Link from to) whole = slot_whole s to whole
names_whole s (Unlink path) whole = (whole, grows_same s)
names_whole s (Rename from to) whole = slot_whole s to whole
names_whole s (Attr path key value) whole = key_whole s key whole
names_whole s (Fsync path) whole = (whole, grows_same s)
names_whole s (FsyncDir path) whole = (whole, grows_same s)
names_whole s Sync whole = (whole, grows_same s)
names_whole s Begin whole = (whole, grows_same s)
names_whole s Commit whole = (whole, grows_same s)
names_whole s (Mark word) whole = word_whole s word whole

dir_whole : (s : Files) (path : List (List ℕ)) → IsConsistent s → is_dir s path ≡ false → Keeps s (record s { dirs = s.dirs ++ path ∷ [] })
dir_whole s path whole none =
    let more = length-append s.dirs (path ∷ []) in (
      record {
        attrs_there = whole.attrs_there;
        attrs_once = whole.attrs_once;
        dirs_there = All-weaker (λ slot. slot.dir < length s.dirs) (λ slot. slot.dir < length (s.dirs ++ path ∷ [])) (λ slot h. omega (arith, h, more)) s.slots whole.dirs_there;
        dirs_once = push_once same_path s.dirs path same_path-refl none whole.dirs_once;
        slots_once = whole.slots_once;
        keys_once = whole.keys_once;
        words_once = whole.words_once;
        root = ap is_some (found_more (λ dir. same_path dir []) s.dirs (path ∷ []) whole.root) ∙ whole.root;
      },
      record { files = omega arith; dirs = omega (arith, more); keys = omega arith; words = omega arith; count = omega arith; slots = λ k n h. h },
    )

content_whole : (s : Files) (file : Option ℕ) (change : List ℕ → List ℕ) → IsConsistent s → Keeps s (record s { contents = at_place file change s.contents })
content_whole s file change whole =
    let same = length-at_place file change s.contents in (
      record {
        attrs_there = All-weaker (λ a. (a.file < length s.contents) × (a.key < length s.keys)) (λ a. (a.file < length (at_place file change s.contents)) × (a.key < length s.keys)) (λ a h. (omega (arith, h.0, same), h.1)) s.attrs whole.attrs_there;
        attrs_once = whole.attrs_once;
        dirs_there = whole.dirs_there;
        dirs_once = whole.dirs_once;
        slots_once = whole.slots_once;
        keys_once = whole.keys_once;
        words_once = whole.words_once;
        root = whole.root;
      },
      record { files = omega (arith, same); dirs = omega arith; keys = omega arith; words = omega arith; count = omega arith; slots = λ k n h. h },
    )

held_whole : (s : Files) (path : List (List ℕ)) (file : Option ℕ) → IsConsistent s → Keeps s (with_file s path file)
held_whole s path file whole = (
  record { attrs_there = whole.attrs_there; attrs_once = whole.attrs_once; dirs_there = whole.dirs_there; dirs_once = whole.dirs_once; slots_once = whole.slots_once; keys_once = whole.keys_once; words_once = whole.words_once; root = whole.root },
  record { files = omega arith; dirs = omega arith; keys = omega arith; words = omega arith; count = omega arith; slots = λ k n h. h },
)

equal_numbers : (m n : ℕ) → m ≡ n → (m == n) ≡ true
equal_numbers m n h = grind (arith, nat_tests)

-- no other value of the key of the file
value_fresh : (attrs : List AttrValue) (v : AttrValue) → is_some (value_place attrs v.file v.key) ≡ false → AllPairs (λ a b. a.file ≡ b.file → a.key ≢ b.key) attrs
    → AllPairs (λ a b. a.file ≡ b.file → a.key ≢ b.key) (attrs ++ v ∷ [])
value_fresh attrs v none once = all_pairs_push (λ a b. a.file ≡ b.file → a.key ≢ b.key) attrs v once
    (λ k d there file key. fresh (λ a. (a.file == v.file) && (a.key == v.key)) attrs none k d there
    (and_from ((get_or attrs k d).file == v.file) ((get_or attrs k d).key == v.key) (equal_numbers (get_or attrs k d).file v.file file) (equal_numbers (get_or attrs k d).key v.key key)))

-- the list with another value at the place of the same key of the same file
value_set_once : (attrs : List AttrValue) (v : AttrValue) (place : ℕ) → place < length attrs → (get_or attrs place v).file ≡ v.file → (get_or attrs place v).key ≡ v.key
    → AllPairs (λ a b. a.file ≡ b.file → a.key ≢ b.key) attrs → AllPairs (λ a b. a.file ≡ b.file → a.key ≢ b.key) (set attrs place v)
value_set_once attrs v place there file key once = λ i j d l m.
    let m' : j < length attrs = omega (arith, m, length-set attrs place v) in
    let at_i = same_key attrs v place there file key i d (omega (arith, l, m')) in
    let at_j = same_key attrs v place there file key j d m' in
    λ files keys. once i j d l m' (sym at_i.0 ∙ files ∙ at_j.0) (sym at_i.1 ∙ keys ∙ at_j.1)
  where
    same_key : (attrs : List AttrValue) (v : AttrValue) (place : ℕ) → place < length attrs → (get_or attrs place v).file ≡ v.file → (get_or attrs place v).key ≡ v.key
        → (k : ℕ) (d : AttrValue) → k < length attrs → ((get_or (set attrs place v) k d).file ≡ (get_or attrs k d).file) × ((get_or (set attrs place v) k d).key ≡ (get_or attrs k d).key)
    same_key attrs v place there file key k d within = elim (cases_eq k place) [
      | inl e ↦ (
        ap (λ (n : ℕ). (get_or (set attrs place v) n d).file) e ∙ ap (λ (a : AttrValue). a.file) (get_or-set_same attrs place v d there) ∙ sym file ∙ ap (λ (a : AttrValue). a.file) (get_or_default attrs place v d there) ∙ ap (λ (n : ℕ). (get_or attrs n d).file) (sym e),
        ap (λ (n : ℕ). (get_or (set attrs place v) n d).key) e ∙ ap (λ (a : AttrValue). a.key) (get_or-set_same attrs place v d there) ∙ sym key ∙ ap (λ (a : AttrValue). a.key) (get_or_default attrs place v d there) ∙ ap (λ (n : ℕ). (get_or attrs n d).key) (sym e),
      )
      | inr apart ↦ (ap (λ (a : AttrValue). a.file) (get_or-set_other attrs place k v d apart), ap (λ (a : AttrValue). a.key) (get_or-set_other attrs place k v d apart))
    ]

pub both_true : (a b : Bool) → (a && b) ≡ true → (a ≡ true) × (b ≡ true)
both_true true b h = (refl, h)
both_true false b h = cc

pub same_number : (m n : ℕ) → (m == n) ≡ true → m ≡ n
same_number m n h = grind (arith, nat_tests)

attr_set : (s : Files) (v : AttrValue) → v.file < length s.contents → v.key < length s.keys → IsConsistent s → (o : Option ℕ) → value_place s.attrs v.file v.key ≡ o
    → Keeps s (record s { attrs = with_value s.attrs v o })
attr_set s v file key whole None none = (
  record {
    attrs_there = All-push (λ a. (a.file < length s.contents) × (a.key < length s.keys)) s.attrs v whole.attrs_there (file, key);
    attrs_once = value_fresh s.attrs v (ap is_some none) whole.attrs_once;
    dirs_there = whole.dirs_there;
    dirs_once = whole.dirs_once;
    slots_once = whole.slots_once;
    keys_once = whole.keys_once;
    words_once = whole.words_once;
    root = whole.root;
  },
  record { files = omega arith; dirs = omega arith; keys = omega arith; words = omega arith; count = omega arith; slots = λ k n h. h },
)
attr_set s v file key whole (Some place) found =
    let at = position-Some (λ a. (a.file == v.file) && (a.key == v.key)) s.attrs place v found in
    let same = both_true _ _ at.1 in (
      record {
        attrs_there = All-set (λ a. (a.file < length s.contents) × (a.key < length s.keys)) s.attrs place v (file, key) whole.attrs_there;
        attrs_once = value_set_once s.attrs v place at.0 (same_number _ _ same.0) (same_number _ _ same.1) whole.attrs_once;
        dirs_there = whole.dirs_there;
        dirs_once = whole.dirs_once;
        slots_once = whole.slots_once;
        keys_once = whole.keys_once;
        words_once = whole.words_once;
        root = whole.root;
      },
      record { files = omega arith; dirs = omega arith; keys = omega arith; words = omega arith; count = omega arith; slots = λ k n h. h },
    )

attr_whole : (s : Files) (file key : Option ℕ) (value : ℕ) → IfSome file (λ f. f < length s.contents) → IfSome key (λ k. k < length s.keys) → IsConsistent s → Keeps s (with_attr s file key value)
attr_whole s None key value there known whole = (whole, grows_same s)
attr_whole s (Some f) None value there known whole = (whole, grows_same s)
attr_whole s (Some f) (Some k) value there known whole = attr_set s (record { file = f; key = k; value = value }) there known whole (value_place s.attrs f k) refl

number_within : (table : List (List ℕ)) (text : List ℕ) (o : Option ℕ) → text_number table text ≡ o → IfSome o (λ k. k < length table)
number_within table text None h = tt
number_within table text (Some k) h = (position-Some (λ entry. bytes_eq entry text) table k [] h).0

rename_whole : (s : Files) (from to : List (List ℕ)) → IsConsistent s → Keeps s (changed s (Rename from to))
rename_whole s from to whole = elim (cases_Bool (are_one s from to)) [
  | inl one ↦ rw one (whole, grows_same s)
  | inr two ↦ rw two
      (let first = held_whole s to (file_of s from) whole in
      let second = held_whole (with_file s to (file_of s from)) from None first.0 in
      (second.0, grows_on s (with_file s to (file_of s from)) (with_file (with_file s to (file_of s from)) from None) first.1 second.1))
]

-- a new directory has a path of its own
abbrev IsNewDir : Files → Call → Type 0
IsNewDir s (Mkdir path) = is_dir s path ≡ false
IsNewDir s call = Unit {0}

changed_whole : (s : Files) (call : Call) → IsSmall s → IsNewDir s call → IsConsistent s → Keeps s (changed s call)
changed_whole s (Mkdir path) small new whole = dir_whole s path whole new
changed_whole s (Create path) small new whole = held_whole s path _ whole
changed_whole s (Write path at text) small new whole = content_whole s (file_of s path) (overwritten at text) whole
changed_whole s (Append path text) small new whole = content_whole s (file_of s path) (overwritten (size_of s (file_of s path)) text) whole
changed_whole s (Truncate path size) small new whole = content_whole s (file_of s path) (resized size) whole
changed_whole s (Link from to) small new whole = held_whole s to _ whole
changed_whole s (Unlink path) small new whole = held_whole s path _ whole
changed_whole s (Rename from to) small new whole = rename_whole s from to whole
changed_whole s (Attr path key value) small new whole = attr_whole s (file_of s path) (text_number s.keys key) value (file_there s (slot_of s path) small) (number_within s.keys key (text_number s.keys key) refl) whole
changed_whole s (Fsync path) small new whole = (whole, grows_same s)
changed_whole s (FsyncDir path) small new whole = (whole, grows_same s)
changed_whole s Sync small new whole = (whole, grows_same s)
changed_whole s Begin small new whole = (whole, grows_same s)
changed_whole s Commit small new whole = (whole, grows_same s)
changed_whole s (Mark word) small new whole = (whole, grows_same s)

pub right_fails : (a b : Bool) → (a || b) ≡ false → b ≡ false
right_fails true b h = cc
right_fails false b h = h

new_dir : (s : Files) (call : Call) → refusal s call ≡ None → IsNewDir (with_names s call) call
new_dir s (Mkdir path) accepted =
    right_fails (is_some (file_of s path)) (is_dir s path) (test_fails (is_some (file_of s path) || is_dir s path) NameTaken (mkdir_none s path accepted).1)
new_dir s (Create path) accepted = tt
new_dir s (Write path at text) accepted = tt
new_dir s (Append path text) accepted = tt
new_dir s (Truncate path size) accepted = tt
new_dir s (Link from to) accepted = tt
new_dir s (Unlink path) accepted = tt
new_dir s (Rename from to) accepted = tt
new_dir s (Attr path key value) accepted = tt
new_dir s (Fsync path) accepted = tt
new_dir s (FsyncDir path) accepted = tt
new_dir s Sync accepted = tt
new_dir s Begin accepted = tt
new_dir s Commit accepted = tt
new_dir s (Mark word) accepted = tt

-- a call that isn't refused keeps files whole
pub call_whole : (s : Files) (call : Call) → IsSmall s → length s.words < 128 → IsConsistent s → refusal s call ≡ None → Keeps s (files_after s call)
call_whole s call small words whole accepted =
    let named = names_whole s call whole in
    let behind = changed_whole (with_names s call) call (names_small s call small accepted words) (new_dir s call accepted) named.0 in
    (behind.0, grows_on s (with_names s call) (files_after s call) named.1 behind.1)

pub setup_whole : (s : Files) (call : Call) → IsSmall s → s.words ≡ [] → IsConsistent s → refusal s call ≡ None → Keeps s (after_setup_call s call)
setup_whole s (Mark word) small unmarked whole accepted = (whole, grows_same s)
setup_whole s call small unmarked whole accepted = call_whole s call small (let none = ap length unmarked in omega (arith, none)) whole accepted

pub nothing_whole : IsConsistent no_files
nothing_whole = record {
  attrs_there = All-nil (λ a. (a.file < 0) × (a.key < 0));
  attrs_once = λ i j d l m. absurd (omega (arith, m));
  dirs_there = All-nil (λ slot. slot.dir < 1);
  dirs_once = λ i j d l m. absurd (omega (arith, l, m));
  slots_once = λ i j d l m. absurd (omega (arith, m));
  keys_once = λ i j d l m. absurd (omega (arith, m));
  words_once = λ i j d l m. absurd (omega (arith, m));
  root = refl;
}

-- what a call changes keeps the numbers of names
pub call_grows : (s : Files) (call : Call) → IsSmall s → length s.words < 128 → IsConsistent s → refusal s call ≡ None → Grows (with_names s call) (files_after s call)
call_grows s call small words whole accepted = (changed_whole (with_names s call) call (names_small s call small accepted words) (new_dir s call accepted) (names_whole s call whole).0).1
