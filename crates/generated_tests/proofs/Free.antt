-- The names that a generated call makes are free.
use Rattle.std.proofs.Common.{◌≡◌, ℕ, suc, ◌<◌, ◌^◌, Bool, true, false, List, [], ◌∷◌, ◌++◌, length, ltb, cond, Option, Some, None, All, ◌∙◌, ap, arith}
use Rattle.std.specs.Prelude.{codes, bytes_eq, is_some, option_and_then, if◌then◌else◌}
use Rattle.std.proofs.lemmas.Bool.{lt-ltb}
use Rattle.std.proofs.lemmas.List.Elements.{All-cons, All-weaker}
use Rattle.fer_events.specs.declared.tables.SlotName.{SlotName}
use Rattle.fer_events.specs.declared.tables.AttrValue.{AttrValue}
use Rattle.fer_events.specs.States.{at_place}
use Rattle.fer_events.specs.Paths.{same_entry, entry_number}
use Rattle.fer_events.specs.Truth.{item_at}
use Rattle.fer_events.proofs.GeneralPlaces.{found_nowhere}
use Rattle.call_events.specs.declared.files.Files.{Files}
use Rattle.call_events.specs.Found.{file_of}
use Rattle.call_events.specs.Changes.{with_slot, with_file}
use Rattle.call_events.proofs.Whole.{same_entry-refl}
use Rattle.model_library.specs.Generated.{numbered, path_of}
use Rattle.generated_tests.proofs.Names.{numbered_apart}
use Rattle.generated_tests.proofs.Places.{next_found}
use Rattle.generated_tests.proofs.Shapes.{in_root, files_with, IsEarlierName}

-- no slot has this name in the root
abbrev pub IsFree : List SlotName → List ℕ → Type 0
IsFree slots name = All (λ slot. same_entry slot (in_root name) ≡ false) slots

-- the slots of such files
abbrev pub slots_with : List SlotName → List SlotName
slots_with names = in_root (codes "a") ∷ in_root (codes "b") ∷ names

earlier_apart : (letter i : ℕ) → i < 2 ^ 32 → (slot : SlotName) → IsEarlierName i slot → same_entry slot (in_root (numbered letter i)) ≡ false
earlier_apart letter i small slot h = ap (λ (s : SlotName). same_entry s (in_root (numbered letter i))) h.is ∙ numbered_apart h.letter letter h.number i h.earlier small

-- a name that ends in the number of call i is free before it
pub number_free : (letter i : ℕ) (names : List SlotName) → i < 2 ^ 32 → bytes_eq (codes "a") (numbered letter i) ≡ false → bytes_eq (codes "b") (numbered letter i) ≡ false
    → All (IsEarlierName i) names → IsFree (slots_with names) (numbered letter i)
number_free letter i names small not_a not_b earlier =
    let P : SlotName → Type 0 = λ slot. same_entry slot (in_root (numbered letter i)) ≡ false in
    All-cons P (in_root (codes "a")) (in_root (codes "b") ∷ names) not_a
    (All-cons P (in_root (codes "b")) names not_b
    (All-weaker (IsEarlierName i) P (earlier_apart letter i small) names earlier))

-- a free name has no slot
pub free_nowhere : (slots : List SlotName) (name : List ℕ) → IsFree slots name → entry_number slots (in_root name) ≡ None
free_nowhere slots name free = found_nowhere (λ slot. same_entry slot (in_root name)) slots free

-- it gets the next slot
pub slot_next : (names : List SlotName) (held : List (Option ℕ)) (contents : List (List ℕ)) (attrs : List AttrValue) (keys words : List (List ℕ)) (name : List ℕ) → IsFree (slots_with names) name
    → with_slot (files_with names held contents attrs keys words) (path_of name) ≡ files_with (names ++ in_root name ∷ []) (held ++ None ∷ []) contents attrs keys words
slot_next names held contents attrs keys words name free =
    let s : Files = files_with names held contents attrs keys words in
    let t : Files = files_with (names ++ in_root name ∷ []) (held ++ None ∷ []) contents attrs keys words in
    ap (λ (o : Option ℕ). if is_some o then s else t) (free_nowhere (slots_with names) name free)

next_slot : (names : List SlotName) (name : List ℕ) → IsFree (slots_with names) name → entry_number (slots_with (names ++ in_root name ∷ [])) (in_root name) ≡ Some (suc (suc (length names)))
next_slot names name free = next_found (λ slot. same_entry slot (in_root name)) (slots_with names) (in_root name) free (same_entry-refl (in_root name))

-- and then comes to hold a file
pub file_next : (names : List SlotName) (held : List (Option ℕ)) (contents : List (List ℕ)) (attrs : List AttrValue) (keys words : List (List ℕ)) (name : List ℕ) (file : Option ℕ) → IsFree (slots_with names) name
    → with_file (files_with (names ++ in_root name ∷ []) (held ++ None ∷ []) contents attrs keys words) (path_of name) file
    ≡ files_with (names ++ in_root name ∷ []) (at_place (Some (length names)) (λ _. file) (held ++ None ∷ [])) contents attrs keys words
file_next names held contents attrs keys words name file free =
    let t : Files = files_with (names ++ in_root name ∷ []) (held ++ None ∷ []) contents attrs keys words in
    ap (λ (o : Option ℕ). record t { held = at_place o (λ _. file) t.held }) (next_slot names name free)

-- a free name holds no file
pub file_free : (names : List SlotName) (held : List (Option ℕ)) (contents : List (List ℕ)) (attrs : List AttrValue) (keys words : List (List ℕ)) (name : List ℕ) → IsFree (slots_with names) name
    → file_of (files_with names held contents attrs keys words) (path_of name) ≡ None
file_free names held contents attrs keys words name free =
    ap (λ (o : Option ℕ). option_and_then (λ h. h) (item_at (Some 0 ∷ Some 1 ∷ held) o)) (free_nowhere (slots_with names) name free)

-- `a` is the first file, and `b` the second
pub file_a : (names : List SlotName) (held : List (Option ℕ)) (contents : List (List ℕ)) (attrs : List AttrValue) (keys words : List (List ℕ)) → file_of (files_with names held contents attrs keys words) (path_of (codes "a")) ≡ Some 0
file_a names held contents attrs keys words =
    let there : ltb 0 (length (slots_with names)) ≡ true = lt-ltb 0 (length (slots_with names)) (omega arith) in
    ap (λ (t : Bool). option_and_then (λ h. h) (item_at (Some 0 ∷ Some 1 ∷ held) (cond t (Some 0) None))) there

pub file_b : (names : List SlotName) (held : List (Option ℕ)) (contents : List (List ℕ)) (attrs : List AttrValue) (keys words : List (List ℕ)) → file_of (files_with names held contents attrs keys words) (path_of (codes "b")) ≡ Some 1
file_b names held contents attrs keys words =
    let there : ltb 1 (length (slots_with names)) ≡ true = lt-ltb 1 (length (slots_with names)) (omega arith) in
    ap (λ (t : Bool). option_and_then (λ h. h) (item_at (Some 0 ∷ Some 1 ∷ held) (cond t (Some 1) None))) there
