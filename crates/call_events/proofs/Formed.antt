-- Formed calls leave the names of files formed.
use Rattle.std.proofs.Common.{ℕ, true, IsTrue, List, [], ◌∷◌, Option, Some, None, is_some, All, refl, inl, inr}
use Rattle.std.specs.Option.{option_map}
use Rattle.std.proofs.lemmas.Bool.{cases_Bool, and_parts}
use Rattle.std.proofs.lemmas.List.Elements.{All-nil, All-cons, All-push}
use Rattle.text_scan.specs.Forms.{is_word, is_component}
use Rattle.litmus_syntax.specs.declared.call.Call.{Call}
use Rattle.litmus_syntax.specs.declared.call.Call.TheVariants.{Mkdir, Create, Write, Append, Truncate, Link, Unlink, Rename, Attr, Fsync, FsyncDir, Sync, Mark, Begin, Commit}
use Rattle.litmus_syntax.specs.Forms.{is_formed_path, is_formed_call}
use Rattle.fer_events.specs.declared.tables.SlotName.{SlotName}
use Rattle.fer_events.specs.Truth.{text_number}
use Rattle.call_events.specs.declared.files.Files.{Files}
use Rattle.fer_events.specs.Paths.{entry_number, name_in, split_last, put_front}
use Rattle.call_events.specs.Found.{no_files, dir_number, is_dir, entry_of, file_of}
use Rattle.call_events.specs.Changes.{noted, with_entry, with_slot, with_names, with_attr, are_one, changed, files_after}
use Rattle.call_events.specs.Running.{after_setup_call}
use Rattle.call_events.specs.Asking.{with_asked}
use Rattle.call_events.specs.Runs.{AreFormed}

-- the last component of a formed path is formed
abbrev LastIsFormed : Option (List (List ℕ) × List ℕ) → Type 0
LastIsFormed None = Unit {0}
LastIsFormed (Some (front, last)) = IsTrue (is_component last)

front_formed : (x : List ℕ) (o : Option (List (List ℕ) × List ℕ)) → IsTrue (is_component x) → LastIsFormed o → LastIsFormed (put_front x o)
front_formed x None formed last = formed
front_formed x (Some (front, y)) formed last = last

last_formed : (path : List (List ℕ)) → IsTrue (is_formed_path path) → LastIsFormed (split_last path)
last_formed [] formed = tt
last_formed (x ∷ xs) formed =
    let both = and_parts (is_component x) (is_formed_path xs) formed in
    front_formed x (split_last xs) both.0 (last_formed xs both.1)

-- what is named by the name of an entry is formed
abbrev EntryIsFormed : Option SlotName → Type 0
EntryIsFormed None = Unit {0}
EntryIsFormed (Some e) = IsTrue (is_component e.name)

named_formed : (o : Option ℕ) (name : List ℕ) → IsTrue (is_component name) → EntryIsFormed (option_map (λ dir. record { dir = dir; name = name }) o)
named_formed None name formed = tt
named_formed (Some d) name formed = formed

split_formed : (s : Files) (split : Option (List (List ℕ) × List ℕ)) → LastIsFormed split → EntryIsFormed (name_in s.dirs split)
split_formed s None formed = tt
split_formed s (Some (parent, name)) formed = named_formed (dir_number s parent) name formed

entry_formed : (s : Files) (o : Option SlotName) → EntryIsFormed o → AreFormed s → AreFormed (with_entry s o)
entry_formed s None entry formed = formed
entry_formed s (Some e) entry formed = elim (cases_Bool (is_some (entry_number s.slots e))) [
  | inl old ↦ rw old formed
  | inr new ↦ rw new (record {
    dirs = formed.dirs;
    slots = All-push (λ slot. IsTrue (is_component slot.name)) s.slots e formed.slots entry;
    keys = formed.keys;
    words = formed.words;
  })
]

pub slot_formed : (s : Files) (path : List (List ℕ)) → IsTrue (is_formed_path path) → AreFormed s → AreFormed (with_slot s path)
slot_formed s path path_is formed = entry_formed s (entry_of s path) (split_formed s (split_last path) (last_formed path path_is)) formed

pub asked_formed : (s : Files) (path : List (List ℕ)) → IsTrue (is_formed_path path) → AreFormed s → AreFormed (with_asked s path)
asked_formed s path path_is formed = elim (cases_Bool (is_dir s path)) [
  | inl dir ↦ rw dir formed
  | inr name ↦ rw name (slot_formed s path path_is formed)
]

noted_formed : (table : List (List ℕ)) (text : List ℕ) → IsTrue (is_word text) → All (λ word. IsTrue (is_word word)) table → All (λ word. IsTrue (is_word word)) (noted table text)
noted_formed table text word all = elim (cases_Bool (is_some (text_number table text))) [
  | inl old ↦ rw old all
  | inr new ↦ rw new (All-push (λ word. IsTrue (is_word word)) table text all word)
]

attr_formed : (s : Files) (file key : Option ℕ) (value : ℕ) → AreFormed s → AreFormed (with_attr s file key value)
attr_formed s None key value formed = formed
attr_formed s (Some f) None value formed = formed
attr_formed s (Some f) (Some k) value formed = record { dirs = formed.dirs; slots = formed.slots; keys = formed.keys; words = formed.words }

rename_formed : (s : Files) (from to : List (List ℕ)) → AreFormed s → AreFormed (changed s (Rename from to))
rename_formed s from to formed = elim (cases_Bool (are_one s from to)) [
  | inl one ↦ rw one formed
  | inr two ↦ rw two (record { dirs = formed.dirs; slots = formed.slots; keys = formed.keys; words = formed.words })
]

-- a formed call leaves the names of files formed
pub call_formed : (s : Files) (call : Call) → IsTrue (is_formed_call call) → AreFormed s → AreFormed (files_after s call)
call_formed s (Mkdir path) call_is formed = record {
  dirs = All-push (λ dir. IsTrue (is_formed_path dir)) s.dirs path formed.dirs call_is;
  slots = formed.slots;
  keys = formed.keys;
  words = formed.words;
}
call_formed s (Create path) call_is formed =
    let named = slot_formed s path call_is formed in record { dirs = named.dirs; slots = named.slots; keys = named.keys; words = named.words }
call_formed s (Write path at text) call_is formed = record { dirs = formed.dirs; slots = formed.slots; keys = formed.keys; words = formed.words }
call_formed s (Append path text) call_is formed = record { dirs = formed.dirs; slots = formed.slots; keys = formed.keys; words = formed.words }
call_formed s (Truncate path size) call_is formed = record { dirs = formed.dirs; slots = formed.slots; keys = formed.keys; words = formed.words }
call_formed s (Link from to) call_is formed =
    let named = slot_formed s to (and_parts (is_formed_path from) (is_formed_path to) call_is).1 formed in
    record { dirs = named.dirs; slots = named.slots; keys = named.keys; words = named.words }
call_formed s (Unlink path) call_is formed = record { dirs = formed.dirs; slots = formed.slots; keys = formed.keys; words = formed.words }
call_formed s (Rename from to) call_is formed =
    rename_formed (with_slot s to) from to (slot_formed s to (and_parts (is_formed_path from) (is_formed_path to) call_is).1 formed)
call_formed s (Attr path key value) call_is formed =
    let key_is = (and_parts (is_formed_path path) (is_word key) (and_parts _ _ call_is).0).1 in
    let n : Files = with_names s (Attr path key value) in
    attr_formed n (file_of n path) (text_number n.keys key) value
    (record { dirs = formed.dirs; slots = formed.slots; keys = noted_formed s.keys key key_is formed.keys; words = formed.words })
call_formed s (Fsync path) call_is formed = formed
call_formed s (FsyncDir path) call_is formed = formed
call_formed s Sync call_is formed = formed
call_formed s (Mark word) call_is formed = record { dirs = formed.dirs; slots = formed.slots; keys = formed.keys; words = noted_formed s.words word call_is formed.words }
call_formed s Begin call_is formed = formed
call_formed s Commit call_is formed = formed

pub setup_formed : (s : Files) (call : Call) → IsTrue (is_formed_call call) → AreFormed s → AreFormed (after_setup_call s call)
setup_formed s (Mark word) call_is formed = formed
setup_formed s call call_is formed = call_formed s call call_is formed

-- the root is formed
pub nothing_formed : AreFormed no_files
nothing_formed = record {
  dirs = All-cons (λ dir. IsTrue (is_formed_path dir)) [] [] (refl {a = true}) (All-nil (λ dir. IsTrue (is_formed_path dir)));
  slots = All-nil (λ slot. IsTrue (is_component slot.name));
  keys = All-nil (λ key. IsTrue (is_word key));
  words = All-nil (λ word. IsTrue (is_word word));
}
