-- What the events of a call leave of a state is what the call leaves of the files.
use Rattle.std.proofs.Common.{◌≡◌, ℕ, zero, suc, ◌+◌, ◌-◌, ◌<◌, ◌≤◌, Bool, true, false, nat_le, List, [], ◌∷◌, ◌++◌, length, map, replicate, get_or, bytes_eq, Option, Some, None, is_some, IfSome, All, refl, sym, ◌∙◌, ap, subst, inl, inr, arith, length-append}
use Rattle.std.specs.Prelude.{option_and_then, unwrap_or}
use Rattle.std.specs.Option.{option_map}
use Rattle.std.specs.List.{position}
use Rattle.std.proofs.lemmas.Bool.{cases_Bool, true≢false}
use Rattle.std.proofs.lemmas.Bool.Decides.{nat_tests}
use Rattle.std.proofs.lemmas.List.Elements.{All-append, All-replicate, All-map, All-weaker}
use Rattle.std.proofs.lemmas.List.Quantifiers.{position-Some}
use Rattle.std.proofs.lemmas.Option.{unwrap_or-slice_get}
use Rattle.litmus_syntax.specs.declared.call.Call.{Call}
use Rattle.litmus_syntax.specs.declared.call.Call.TheVariants.{Mkdir, Create, Write, Append, Truncate, Link, Unlink, Rename, Attr, Fsync, FsyncDir, Sync, Mark, Begin, Commit}
use Rattle.fer_events.specs.declared.tables.SlotName.{SlotName}
use Rattle.fer_events.specs.States.{State, padded, written, cleared, at_place}
use Rattle.fer_events.specs.Truth.{text_number}
use Rattle.fer_events.proofs.AtPlace.{length-at_place, nothing_at_place}
use Rattle.call_events.specs.declared.files.Files.{Files}
use Rattle.call_events.specs.declared.making.Sizes.{Sizes}
use Rattle.call_events.specs.declared.making.Stamp.{Stamp}
use Rattle.fer_events.specs.Paths.{entry_number, same_entry}
use Rattle.call_events.specs.Found.{entry_of, slot_of, file_of, size_of}
use Rattle.call_events.specs.Changes.{noted, with_entry, with_slot, with_names, resized, overwritten, with_text, with_size, with_file, with_attr, are_one, changed, files_after}
use Rattle.call_events.specs.CallEvents.{text_events, rename_events, events_of}
use Rattle.call_events.specs.Small.{IsSmall, CanTake}
use Rattle.call_events.proofs.Keeping.{file_there, length-resized}
use Rattle.call_events.proofs.Whole.{bytes_eq-refl}
use Rattle.call_events.proofs.Frames.{filled, filled_more, filled_place, map_place}
use Rattle.call_events.proofs.StatePieces.{all_after, grown, text_mean, length-padded, length-overwritten_is, written_padded, cleared_padded}
use Rattle.call_events.proofs.StateAttrs.{first_place, later_place, values_of, values_after}

-- how many slots, files, keys and words there are in the end
pub record Frame : Type 0 where
  pub slots : ℕ
  pub files : ℕ
  pub keys : ℕ
  pub words : ℕ

abbrev pub files_in : Frame → Files → List (List ℕ)
files_in f s = filled f.files [] s.contents

abbrev pub seen_in : Frame → ℕ → List Bool
seen_in f n = replicate n true ++ replicate (f.words - n) false

-- the state of files in a frame
abbrev pub framed : Frame → Files → State
framed f s = record {
  slots = filled f.slots None s.held;
  sizes = map (λ content. length content) (files_in f s);
  bytes = map padded (files_in f s);
  attrs = values_of f.files f.keys s.attrs;
  seen = seen_in f (length s.words);
}

-- the frame has room for the files
pub record Holds (f : Frame) (s : Files) : Type 0 where
  pub held : length s.held ≤ f.slots
  pub files : length s.contents ≤ f.files
  pub keys : length s.keys ≤ f.keys
  pub words : length s.words ≤ f.words

entry_mean : (f : Frame) (s : Files) (o : Option SlotName) → length (with_entry s o).held ≤ f.slots → framed f (with_entry s o) ≡ framed f s
entry_mean f s None room = refl
entry_mean f s (Some e) room = elim (cases_Bool (is_some (entry_number s.slots e))) [
  | inl old ↦ rw old refl
  | inr new ↦
      let more : length (s.held ++ None ∷ []) ≤ f.slots = rw new at room in
      rw new (ap (λ (slots : List (Option ℕ)). record (framed f s) { slots = slots }) (filled_more f.slots None s.held (omega (arith, more, length-append {A = Option ℕ} s.held (None ∷ [])))))
]

slot_mean : (f : Frame) (s : Files) (path : List (List ℕ)) → length (with_slot s path).held ≤ f.slots → framed f (with_slot s path) ≡ framed f s
slot_mean f s path room = entry_mean f s (entry_of s path) room

new_file_mean : (f : Frame) (s : Files) → length (s.contents ++ [] ∷ []) ≤ f.files → framed f (record s { contents = s.contents ++ [] ∷ [] }) ≡ framed f s
new_file_mean f s room =
    ap (λ (cs : List (List ℕ)). record (framed f s) { sizes = map (λ content. length content) cs; bytes = map padded cs })
    (filled_more f.files [] s.contents (omega (arith, room, length-append {A = List ℕ} s.contents ([] ∷ []))))

-- a slot of a path is there
slot_within : (s : Files) (o : Option SlotName) → length s.held ≡ length s.slots → IfSome (option_and_then (entry_number s.slots) o) (λ k. k < length s.held)
slot_within s None same = tt
slot_within s (Some e) same = number_within (entry_number s.slots e) refl
  where
    number_within : (o : Option ℕ) → entry_number s.slots e ≡ o → IfSome o (λ k. k < length s.held)
    number_within None is = tt
    number_within (Some k) is = omega (arith, (position-Some (λ slot. same_entry slot e) s.slots k e is).0, same)

file_mean : (f : Frame) (s : Files) (path : List (List ℕ)) (file : Option ℕ) → IsSmall s
    → ◌≡◌ {A = State} (record (framed f s) { slots = at_place (slot_of s path) (λ _. file) (filled f.slots None s.held) }) (framed f (with_file s path file))
file_mean f s path file small =
    ap (λ (slots : List (Option ℕ)). record (framed f s) { slots = slots })
    (filled_place f.slots None (slot_of s path) (λ _. file) s.held (slot_within s (entry_of s path) small.held))

rename_mean : (f : Frame) (s : Files) (stamp : Stamp) (from to : List (List ℕ)) → IsSmall s → all_after (framed f s) (rename_events s stamp from to) ≡ framed f (changed s (Rename from to))
rename_mean f s stamp from to small = elim (cases_Bool (are_one s from to)) [
  | inl one ↦ rw one refl
  | inr two ↦ rw two (
      let file : Option ℕ = file_of s from in
      let linked : Files = with_file s to file in
      let long : length linked.held ≡ length s.held = length-at_place (slot_of s to) (λ _. file) s.held in
      let within : IfSome (slot_of s from) (λ k. k < length linked.held) =
      let P : ℕ → Type 0 = λ n. IfSome (slot_of s from) (λ k. k < n) in subst P (sym long) (slot_within s (entry_of s from) small.held) in
      let there : ◌≡◌ {A = State} (record (framed f s) { slots = at_place (slot_of s to) (λ _. file) (filled f.slots None s.held) }) (framed f linked) = file_mean f s to file small in
      ap (λ (u : State). record u { slots = at_place (slot_of s from) (λ _. None) u.slots }) there
      ∙ ap (λ (slots : List (Option ℕ)). record (framed f linked) { slots = slots }) (filled_place f.slots None (slot_of s from) (λ _. None) linked.held within))
]

all_fit : (f : Frame) (s : Files) → IsSmall s → All (λ content. length content ≤ 65536) (files_in f s)
all_fit f s small =
    All-append (λ content. length content ≤ 65536) s.contents (replicate (f.files - length s.contents) []) small.contents
    (All-replicate (λ content. length content ≤ 65536) (f.files - length s.contents) [] (omega arith))

-- the file at the place has this size
abbrev HasSize : Option ℕ → List (List ℕ) → ℕ → Type 0
HasSize None cs size = Unit {0}
HasSize (Some k) [] size = Unit {0}
HasSize (Some zero) (c ∷ cs) size = length c ≡ size
HasSize (Some (suc k)) (c ∷ cs) size = HasSize (Some k) cs size

size_at : (k : ℕ) (cs more : List (List ℕ)) → k < length cs → HasSize (Some k) (cs ++ more) (length (get_or cs k []))
size_at k [] more there = absurd (omega arith)
size_at zero (c ∷ cs) more there = refl
size_at (suc k) (c ∷ cs) more there = size_at k cs more (omega (arith, there))

size_of_file : (s : Files) (o : Option ℕ) (more : List (List ℕ)) → IfSome o (λ k. k < length s.contents) → HasSize o (s.contents ++ more) (size_of s o)
size_of_file s None more there = tt
size_of_file s (Some k) more there =
    subst (HasSize (Some k) (s.contents ++ more)) (ap (λ (c : List ℕ). length c) (sym (unwrap_or-slice_get s.contents k []))) (size_at k s.contents more there)

kept_sizes : (o : Option ℕ) (at : ℕ) (text : List ℕ) (cs : List (List ℕ)) (size : ℕ) → 0 < length text → at + length text ≤ size → HasSize o cs size
    → map (λ content. length content) cs ≡ map (λ content. length content) (at_place o (overwritten at text) cs)
kept_sizes None at text cs size some fits is = refl
kept_sizes (Some k) at text [] size some fits is = refl
kept_sizes (Some zero) at text (c ∷ cs) size some fits is =
    let same : length c ≡ length (overwritten at text c) = omega (arith, length-overwritten_is at text c some, is, fits) in
    ap (λ (n : ℕ). n ∷ map (λ content. length content) cs) same
kept_sizes (Some (suc k)) at text (c ∷ cs) size some fits is = ap (λ (ns : List ℕ). length c ∷ ns) (kept_sizes (Some k) at text cs size some fits is)

new_sizes : (o : Option ℕ) (at : ℕ) (text : List ℕ) (cs : List (List ℕ)) (size : ℕ) → 0 < length text → size < at + length text → HasSize o cs size
    → at_place o (λ _. at + length text) (map (λ content. length content) cs) ≡ map (λ content. length content) (at_place o (overwritten at text) cs)
new_sizes None at text cs size some longer is = refl
new_sizes (Some k) at text [] size some longer is = refl
new_sizes (Some zero) at text (c ∷ cs) size some longer is =
    let same : at + length text ≡ length (overwritten at text c) = omega (arith, length-overwritten_is at text c some, is, longer) in
    ap (λ (n : ℕ). n ∷ map (λ content. length content) cs) same
new_sizes (Some (suc k)) at text (c ∷ cs) size some longer is = ap (λ (ns : List ℕ). length c ∷ ns) (new_sizes (Some k) at text cs size some longer is)

sizes_mean : (o : Option ℕ) (at : ℕ) (text : List ℕ) (cs : List (List ℕ)) (size : ℕ) → 0 < length text → HasSize o cs size
    → grown size (at + length text) o (map (λ content. length content) cs) ≡ map (λ content. length content) (at_place o (overwritten at text) cs)
sizes_mean o at text cs size some is = elim (cases_Bool (nat_le (at + length text) size)) [
  | inl fits ↦ rw fits (kept_sizes o at text cs size some (grind (arith, nat_tests)) is)
  | inr longer ↦ rw longer (new_sizes o at text cs size some (grind (arith, nat_tests)) is)
]

-- the files of a frame are those that it is filled up to
filled_contents : (f : Frame) (s : Files) (o : Option ℕ) (change : List ℕ → List ℕ) → IfSome o (λ k. k < length s.contents)
    → at_place o change (files_in f s) ≡ files_in f (record s { contents = at_place o change s.contents })
filled_contents f s o change there = filled_place f.files [] o change s.contents there

write_mean : (f : Frame) (sizes : Sizes) (stamp : Stamp) (s : Files) (o : Option ℕ) (at : ℕ) (text : List ℕ) → IsSmall s → IfSome o (λ k. k < length s.contents) → at + length text ≤ 65536
    → all_after (framed f s) (text_events sizes stamp o (size_of s o) at text) ≡ framed f (with_text s o at text)
write_mean f sizes stamp s o at [] small there room =
    ap (λ (cs : List (List ℕ)). record (framed f s) { sizes = map (λ content. length content) (filled f.files [] cs); bytes = map padded (filled f.files [] cs) }) (sym (unchanged o s.contents))
  where
    unchanged : (o : Option ℕ) (cs : List (List ℕ)) → at_place o (overwritten at []) cs ≡ cs
    unchanged None cs = refl
    unchanged (Some k) [] = refl
    unchanged (Some zero) (c ∷ cs) = refl
    unchanged (Some (suc k)) (c ∷ cs) = ap (λ (ds : List (List ℕ)). c ∷ ds) (unchanged (Some k) cs)
write_mean f sizes stamp s o at (b ∷ bs) small there room =
    let text : List ℕ = b ∷ bs in
    let cs : List (List ℕ) = files_in f s in
    let fit : All (λ content. length content ≤ 65536) cs = all_fit f s small in
    let some : 0 < length text = omega arith in
    let full : All (λ (c : List ℕ). length c ≡ 65536) (map padded cs) =
    All-map (λ (c : List ℕ). length c ≡ 65536) padded cs (All-weaker (λ (c : List ℕ). length c ≤ 65536) (λ (c : List ℕ). length (padded c) ≡ 65536) (λ c h. length-padded c h) cs fit) in
    let bytes : at_place o (written at text) (map padded cs) ≡ map padded (at_place o (overwritten at text) cs) =
    sym (map_place (λ (c : List ℕ). length c ≤ 65536) padded (overwritten at text) (written at text) o cs (λ c h. sym (written_padded at text c some room h)) fit) in
    let lengths : grown (size_of s o) (at + length text) o (map (λ content. length content) cs) ≡ map (λ content. length content) (at_place o (overwritten at text) cs) =
    sizes_mean o at text cs (size_of s o) some (size_of_file s o (replicate (f.files - length s.contents) []) there) in
    text_mean sizes stamp o (size_of s o) at text (framed f s) some room full
    ∙ ap (λ (bs : List (List ℕ)). record (framed f s) { bytes = bs; sizes = grown (size_of s o) (at + length text) o (map (λ content. length content) cs) }) bytes
    ∙ ap (λ (ns : List ℕ). record (framed f s) { bytes = map padded (at_place o (overwritten at text) cs); sizes = ns }) lengths
    ∙ ap (λ (ds : List (List ℕ)). record (framed f s) { bytes = map padded ds; sizes = map (λ content. length content) ds }) (filled_contents f s o (overwritten at text) there)

truncate_mean : (f : Frame) (s : Files) (o : Option ℕ) (size : ℕ) → IsSmall s → IfSome o (λ k. k < length s.contents) → size ≤ 65536
    → ◌≡◌ {A = State} (record (framed f s) { bytes = at_place o (cleared size) (map padded (files_in f s)); sizes = at_place o (λ _. size) (map (λ content. length content) (files_in f s)) }) (framed f (with_size s o size))
truncate_mean f s o size small there room =
    let cs : List (List ℕ) = files_in f s in
    let fit : All (λ content. length content ≤ 65536) cs = all_fit f s small in
    let bytes = map_place (λ (c : List ℕ). length c ≤ 65536) padded (resized size) (cleared size) o cs (λ c h. sym (cleared_padded size c room h)) fit in
    let lengths = map_place (λ (c : List ℕ). length c ≤ 65536) (λ content. length content) (resized size) (λ _. size) o cs (λ c h. length-resized size c) fit in
    ap (λ (bs : List (List ℕ)). record (framed f s) { bytes = bs; sizes = at_place o (λ _. size) (map (λ content. length content) cs) }) (sym bytes)
    ∙ ap (λ (ns : List ℕ). record (framed f s) { bytes = map padded (at_place o (resized size) cs); sizes = ns }) (sym lengths)
    ∙ ap (λ (ds : List (List ℕ)). record (framed f s) { bytes = map padded ds; sizes = map (λ content. length content) ds }) (filled_contents f s o (resized size) there)

attr_mean : (f : Frame) (s : Files) (o k : Option ℕ) (value : ℕ) → Holds f s → IfSome o (λ file. file < length s.contents) → IfSome k (λ key. key < length s.keys) → is_some k ≡ true
    → ◌≡◌ {A = State} (record (framed f s) { attrs = at_place (Some (unwrap_or k 0)) (at_place o (λ _. Some value)) (values_of f.files f.keys s.attrs) }) (framed f (with_attr s o k value))
attr_mean f s o None value room there known some = absurd (true≢false (sym some))
attr_mean f s None (Some key) value room there known some =
    ap (λ (vs : List (List (Option ℕ))). record (framed f s) { attrs = vs }) (nothing_at_place (Some key) (λ _. Some value) (values_of f.files f.keys s.attrs))
attr_mean f s (Some file) (Some key) value room there known some =
    ap (λ (vs : List (List (Option ℕ))). record (framed f s) { attrs = vs })
    (sym (values_after f.files f.keys s.attrs (record { file = file; key = key; value = value }) (omega (arith, there, room.files)) (omega (arith, known, room.keys))))

-- a text behind a table that hasn't it is found behind it
found_last : (p : List ℕ → Bool) (xs : List (List ℕ)) (y : List ℕ) → is_some (position p xs) ≡ false → p y ≡ true → position p (xs ++ y ∷ []) ≡ Some (length xs)
found_last p [] y none here = first_place p y [] here
found_last p (x ∷ xs) y none here = elim (cases_Bool (p x)) [
  | inl first ↦ absurd (true≢false (sym (ap is_some (first_place p x xs first)) ∙ none))
  | inr later ↦
      let rest : is_some (position p xs) ≡ false = is_map (position p xs) ∙ ap is_some (sym (later_place p x xs later)) ∙ none in
      later_place p x (xs ++ y ∷ []) later ∙ ap (option_map (λ k. suc k)) (found_last p xs y rest here)
]
  where
    is_map : (o : Option ℕ) → is_some o ≡ is_some (option_map (λ k. suc k) o)
    is_map None = refl
    is_map (Some k) = refl

pub noted_some : (table : List (List ℕ)) (text : List ℕ) → is_some (text_number (noted table text) text) ≡ true
noted_some table text = elim (cases_Bool (is_some (text_number table text))) [
  | inl old ↦ rw old old
  | inr new ↦ rw new (ap is_some (found_last (λ entry. bytes_eq entry text) table text new (bytes_eq-refl text)))
]

pub text_within : (table : List (List ℕ)) (text : List ℕ) (o : Option ℕ) → text_number table text ≡ o → IfSome o (λ k. k < length table)
text_within table text None h = tt
text_within table text (Some k) h = (position-Some (λ entry. bytes_eq entry text) table k [] h).0

true_at : (k n : ℕ) (more : List Bool) → k < n → at_place (Some k) (λ _. true) (replicate n true ++ more) ≡ replicate n true ++ more
true_at k zero more there = absurd (omega arith)
true_at zero (suc n) more there = refl
true_at (suc k) (suc n) more there = ap (λ (bs : List Bool). true ∷ bs) (true_at k n more (omega arith))

true_behind : (n m : ℕ) → at_place (Some n) (λ _. true) (replicate n true ++ replicate (suc m) false) ≡ replicate (suc n) true ++ replicate m false
true_behind zero m = refl
true_behind (suc n) m = ap (λ (bs : List Bool). true ∷ bs) (true_behind n m)

mark_mean : (f : Frame) (s : Files) (word : List ℕ) → length (noted s.words word) ≤ f.words
    → at_place (Some (unwrap_or (text_number (noted s.words word) word) 0)) (λ _. true) (seen_in f (length s.words)) ≡ seen_in f (length (noted s.words word))
mark_mean f s word room = elim (cases_Bool (is_some (text_number s.words word))) [
  | inl old ↦ rw old (old_mean (text_number s.words word) refl old)
  | inr new ↦
      let more : length (s.words ++ word ∷ []) ≤ f.words = rw new at room in
      let long : length (s.words ++ word ∷ []) ≡ suc (length s.words) = omega (arith, length-append s.words (word ∷ [])) in
      let left : f.words - length s.words ≡ suc (f.words - suc (length s.words)) = omega (arith, more, long) in
      let place : text_number (s.words ++ word ∷ []) word ≡ Some (length s.words) = found_last (λ entry. bytes_eq entry word) s.words word new (bytes_eq-refl word) in
      rw new
      (ap (λ (o : Option ℕ). at_place (Some (unwrap_or o 0)) (λ _. true) (seen_in f (length s.words))) place
      ∙ ap (λ (n : ℕ). at_place (Some (length s.words)) (λ _. true) (replicate (length s.words) true ++ replicate n false)) left
      ∙ true_behind (length s.words) (f.words - suc (length s.words))
      ∙ ap (seen_in f) (sym long))
]
  where
    old_mean : (o : Option ℕ) → text_number s.words word ≡ o → is_some o ≡ true → at_place (Some (unwrap_or (text_number s.words word) 0)) (λ _. true) (seen_in f (length s.words)) ≡ seen_in f (length s.words)
    old_mean None is some = absurd (true≢false (sym some))
    old_mean (Some k) is some =
        ap (λ (o : Option ℕ). at_place (Some (unwrap_or o 0)) (λ _. true) (seen_in f (length s.words))) is
        ∙ true_at k (length s.words) (replicate (f.words - length s.words) false) (text_within s.words word (Some k) is)

-- the key of an attribute has a number; a mark is looked at apart
abbrev IsKnown : Files → Call → Type 0
IsKnown s (Attr path key value) = is_some (text_number s.keys key) ≡ true
IsKnown s (Mark word) = ⊥
IsKnown s call = Unit {0}

-- the events of a call that its files can take
changed_mean : (f : Frame) (sizes : Sizes) (stamp : Stamp) (s : Files) (call : Call) → IsSmall s → Holds f s → CanTake s call → IsKnown s call
    → all_after (framed f s) (events_of sizes stamp s call) ≡ framed f (changed s call)
changed_mean f sizes stamp s (Mkdir path) small room takes known = refl
changed_mean f sizes stamp s (Create path) small room takes known = file_mean f s path (Some (length s.contents - 1)) small
changed_mean f sizes stamp s (Write path at text) small room takes known = write_mean f sizes stamp s (file_of s path) at text small (file_there s (slot_of s path) small) takes
changed_mean f sizes stamp s (Append path text) small room takes known = write_mean f sizes stamp s (file_of s path) (size_of s (file_of s path)) text small (file_there s (slot_of s path) small) takes
changed_mean f sizes stamp s (Truncate path size) small room takes known = truncate_mean f s (file_of s path) size small (file_there s (slot_of s path) small) takes
changed_mean f sizes stamp s (Link from to) small room takes known = file_mean f s to (file_of s from) small
changed_mean f sizes stamp s (Unlink path) small room takes known = file_mean f s path None small
changed_mean f sizes stamp s (Rename from to) small room takes known = rename_mean f s stamp from to small
changed_mean f sizes stamp s (Attr path key value) small room takes known =
    attr_mean f s (file_of s path) (text_number s.keys key) value room (file_there s (slot_of s path) small) (text_within s.keys key (text_number s.keys key) refl) known
changed_mean f sizes stamp s (Fsync path) small room takes known = refl
changed_mean f sizes stamp s (FsyncDir path) small room takes known = refl
changed_mean f sizes stamp s Sync small room takes known = refl
changed_mean f sizes stamp s (Mark word) small room takes known = absurd known
changed_mean f sizes stamp s Begin small room takes known = refl
changed_mean f sizes stamp s Commit small room takes known = refl

names_mean : (f : Frame) (s : Files) (call : Call) → Holds f (with_names s call) → IsKnown (with_names s call) call → framed f (with_names s call) ≡ framed f s
names_mean f s (Create path) room known = new_file_mean f (with_slot s path) room.files ∙ slot_mean f s path room.held
names_mean f s (Link from to) room known = slot_mean f s to room.held
names_mean f s (Rename from to) room known = slot_mean f s to room.held
names_mean f s (Attr path key value) room known = refl
names_mean f s (Mark word) room known = absurd known
names_mean f s (Mkdir path) room known = refl
names_mean f s (Write path at text) room known = refl
names_mean f s (Append path text) room known = refl
names_mean f s (Truncate path size) room known = refl
names_mean f s (Unlink path) room known = refl
names_mean f s (Fsync path) room known = refl
names_mean f s (FsyncDir path) room known = refl
names_mean f s Sync room known = refl
names_mean f s Begin room known = refl
names_mean f s Commit room known = refl

named_mean : (f : Frame) (sizes : Sizes) (stamp : Stamp) (s : Files) (call : Call) → IsSmall (with_names s call) → Holds f (with_names s call) → CanTake (with_names s call) call → IsKnown (with_names s call) call
    → all_after (framed f s) (events_of sizes stamp (with_names s call) call) ≡ framed f (files_after s call)
named_mean f sizes stamp s call small room takes known =
    ap (λ (u : State). all_after u (events_of sizes stamp (with_names s call) call)) (sym (names_mean f s call room known))
    ∙ changed_mean f sizes stamp (with_names s call) call small room takes known

-- the events of a call leave what the call leaves
pub call_mean : (f : Frame) (sizes : Sizes) (stamp : Stamp) (s : Files) (call : Call) → IsSmall (with_names s call) → Holds f (with_names s call) → CanTake (with_names s call) call
    → all_after (framed f s) (events_of sizes stamp (with_names s call) call) ≡ framed f (files_after s call)
call_mean f sizes stamp s (Mark word) small room takes = ap (λ (bs : List Bool). record (framed f s) { seen = bs }) (mark_mean f s word room.words)
call_mean f sizes stamp s (Attr path key value) small room takes =
    named_mean f sizes stamp s (Attr path key value) small room takes (noted_some s.keys key)
call_mean f sizes stamp s (Mkdir path) small room takes = named_mean f sizes stamp s (Mkdir path) small room takes tt
call_mean f sizes stamp s (Create path) small room takes = named_mean f sizes stamp s (Create path) small room takes tt
call_mean f sizes stamp s (Write path at text) small room takes = named_mean f sizes stamp s (Write path at text) small room takes tt
call_mean f sizes stamp s (Append path text) small room takes = named_mean f sizes stamp s (Append path text) small room takes tt
call_mean f sizes stamp s (Truncate path size) small room takes = named_mean f sizes stamp s (Truncate path size) small room takes tt
call_mean f sizes stamp s (Link from to) small room takes = named_mean f sizes stamp s (Link from to) small room takes tt
call_mean f sizes stamp s (Unlink path) small room takes = named_mean f sizes stamp s (Unlink path) small room takes tt
call_mean f sizes stamp s (Rename from to) small room takes = named_mean f sizes stamp s (Rename from to) small room takes tt
call_mean f sizes stamp s (Fsync path) small room takes = named_mean f sizes stamp s (Fsync path) small room takes tt
call_mean f sizes stamp s (FsyncDir path) small room takes = named_mean f sizes stamp s (FsyncDir path) small room takes tt
call_mean f sizes stamp s Sync small room takes = named_mean f sizes stamp s Sync small room takes tt
call_mean f sizes stamp s Begin small room takes = named_mean f sizes stamp s Begin small room takes tt
call_mean f sizes stamp s Commit small room takes = named_mean f sizes stamp s Commit small room takes tt
