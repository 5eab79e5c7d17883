-- A generated call isn't refused, is one event, and leaves the files before the next call.
use Rattle.std.proofs.Common.{◌≡◌, ◌≢◌, ℕ, suc, ◌+◌, ◌-◌, ◌/◌, ◌%◌, ◌<◌, ◌≤◌, ◌⊎◌, inl, inr, Bool, true, false, ◌&&◌, ◌||◌, ◌==◌, nat_le, nat_lt, List, [], ◌∷◌, ◌++◌, length, Option, Some, None, refl, sym, ◌∙◌, ap, subst, arith, length-append}
use Rattle.std.specs.Prelude.{codes, is_some, is_none, if◌then◌else◌}
use Rattle.std.proofs.Math.Bool.{and-false}
use Rattle.std.proofs.lemmas.Bool.{cases_Bool}
use Rattle.std.proofs.lemmas.Bool.Decides.{nat_tests}
use Rattle.litmus_syntax.specs.declared.call.Call.{Call}
use Rattle.litmus_syntax.specs.declared.call.Call.TheVariants.{Create, Write, Truncate, Link, Attr, Mark}
use Rattle.fer_events.specs.declared.tables.SlotName.{SlotName}
use Rattle.fer_events.specs.declared.tables.AttrValue.{AttrValue}
use Rattle.fer_events.specs.States.{at_place}
use Rattle.fer_events.specs.Truth.{text_number}
use Rattle.fer_events.proofs.AtPlace.{length-at_place}
use Rattle.call_events.specs.declared.files.Files.{Files}
use Rattle.call_events.specs.declared.making.Sizes.{Sizes}
use Rattle.call_events.specs.declared.making.Stamp.{Stamp}
use Rattle.call_events.specs.declared.call_kind.CallKind.{CallKind}
use Rattle.call_events.specs.declared.call_kind.CallKind.TheVariants.{NoSuchFile, NameTaken, FileTooLong, TooMany}
use Rattle.call_events.specs.Cutting.{Piece, begins_there, cut_up}
use Rattle.call_events.specs.Found.{slot_of, file_of, size_of}
use Rattle.call_events.specs.Refusals.{kind_if, no_file, no_parent, taken, too_long, files_full, names_full, keys_full, first_of, refusal}
use Rattle.call_events.specs.Changes.{noted, overwritten, resized, with_file, with_new_file, with_value, value_place, with_attr, with_names, files_after}
use Rattle.call_events.specs.CallEvents.{next_stamp, piece_events, text_events, events_of}
use Rattle.model_library.specs.Generated.{numbered, path_of, generated_change, generated_call}
use Rattle.generated_tests.proofs.Shapes.{in_root, files_with, AreMade, IsBefore}
use Rattle.generated_tests.proofs.Free.{IsFree, slots_with, number_free, slot_next, file_next, file_free, file_a, file_b}
use Rattle.generated_tests.proofs.Making.{made_same, made_name, made_mark}

-- what is shown of each generated call on the files before it
pub record GoesOn (i : ℕ) (s : Files) (c : Call) : Type 0 where
  pub accepted : refusal s c ≡ None
  pub behind : IsBefore (i + 1) (files_after s c)
  pub one_event : (sizes : Sizes) (stamp : Stamp) → length (events_of sizes stamp (with_names s c) c) ≡ 1

-- a text of one byte is one piece
one_piece : (sizes : Sizes) (at b : ℕ) → length (cut_up sizes at (b ∷ [])) ≡ 1
one_piece sizes at b = elim (cases_Bool (begins_there sizes (at + 1))) [
  | inl there ↦ rw there refl
  | inr other ↦ rw other refl
]

-- each piece is one event
pieces_long : (sizes : Sizes) (stamp : Stamp) (file : Option ℕ) (size : ℕ) (pieces : List Piece) → length (piece_events sizes stamp file size pieces) ≡ length pieces
pieces_long sizes stamp file size [] = refl
pieces_long sizes stamp file size (piece ∷ pieces) = ap suc (pieces_long sizes (next_stamp stamp) file size pieces)

byte_event : (sizes : Sizes) (stamp : Stamp) (file : Option ℕ) (size at b : ℕ) → length (text_events sizes stamp file size at (b ∷ [])) ≡ 1
byte_event sizes stamp file size at b = pieces_long sizes stamp file size (cut_up sizes at (b ∷ [])) ∙ one_piece sizes at b

-- numbers that aren't too large
fits_below : (limit n : ℕ) → n < limit → nat_le limit n ≡ false
fits_below limit n h = grind (arith, nat_tests)

fits_within : (limit n : ℕ) → n ≤ limit → nat_lt limit n ≡ false
fits_within limit n h = grind (arith, nat_tests)

-- a row of causes of which none applies
two_fail : (a b : Option CallKind) → a ≡ None → b ≡ None → first_of (a ∷ b ∷ []) ≡ None
two_fail a b first second = rw first (rw second refl)

four_fail : (a b c d : Option CallKind) → a ≡ None → b ≡ None → c ≡ None → d ≡ None → first_of (a ∷ b ∷ c ∷ d ∷ []) ≡ None
four_fail a b c d first second third fourth = rw first (rw second (rw third (rw fourth refl)))

file_found : (s : Files) (path : List (List ℕ)) (file : ℕ) → file_of s path ≡ Some file → no_file s path ≡ None
file_found s path file is = ap (λ (o : Option ℕ). kind_if (is_none o) NoSuchFile) is

-- the key `k` among those there are
one_key_noted : (keys : List (List ℕ)) → (keys ≡ []) ⊎ (keys ≡ codes "k" ∷ []) → noted keys (codes "k") ≡ codes "k" ∷ []
one_key_noted keys (inl none) = rw none refl
one_key_noted keys (inr one) = rw one refl

module _ (i : ℕ) (names : List SlotName) (held : List (Option ℕ)) (contents : List (List ℕ)) (attrs : List AttrValue) (keys words : List (List ℕ)) (made : AreMade i names contents keys words) where
  abbrev here : Files
  here = files_with names held contents attrs keys words

  -- a mark
  mark_goes : GoesOn i here (Mark (numbered 109 i))
  mark_goes = record {
    accepted = refl;
    behind = record {
      names = names;
      held = held;
      contents = contents;
      attrs = attrs;
      keys = keys;
      words = noted words (numbered 109 i);
      shape = refl;
      made = made_mark i names contents keys words made;
    };
    one_event = λ sizes stamp. refl;
  }

  -- a free name isn't taken, and there is room for it
  name_untaken : (name : List ℕ) → IsFree (slots_with names) name → taken here (path_of name) ≡ None
  name_untaken name free = ap (λ (o : Option ℕ). kind_if (is_some o || false) NameTaken) (file_free names held contents attrs keys words name free)

  name_fits : (name : List ℕ) → i ≤ 32 → names_full here (path_of name) ≡ None
  name_fits name few =
      let unused : Bool = is_none (slot_of here (path_of name)) in
      let room : nat_le 64 (length (slots_with names)) ≡ false = fits_below 64 (length (slots_with names)) (omega (arith, few, made.few_names)) in
      ap (λ (t : Bool). kind_if (unused && t) TooMany) room ∙ ap (λ (t : Bool). kind_if t TooMany) (and-false unused)

  -- a file
  create_goes : i % 8 ≡ 1 → i ≤ 32 → GoesOn i here (Create (path_of (numbered 110 i)))
  create_goes first few =
      let name : List ℕ = numbered 110 i in
      let free : IsFree (slots_with names) name = number_free 110 i names (omega (arith, few)) refl refl made.earlier in
      let file : Option ℕ = Some (length (contents ++ [] ∷ []) - 1) in
      let slotted : Files = files_with (names ++ in_root name ∷ []) (held ++ None ∷ []) contents attrs keys words in
      record {
        accepted =
            four_fail (no_parent here (path_of name)) (taken here (path_of name)) (files_full here) (names_full here (path_of name)) refl (name_untaken name free)
            (ap (λ (t : Bool). kind_if t TooMany) (fits_below 32 (length contents) (omega (arith, first, few, made.few_files)))) (name_fits name few);
        behind = record {
          names = names ++ in_root name ∷ [];
          held = at_place (Some (length names)) (λ _. file) (held ++ None ∷ []);
          contents = contents ++ [] ∷ [];
          attrs = attrs;
          keys = keys;
          words = words;
          shape =
              ap (λ (s : Files). with_file (with_new_file s) (path_of name) (Some (length (s.contents ++ [] ∷ []) - 1))) (slot_next names held contents attrs keys words name free)
              ∙ file_next names held (contents ++ [] ∷ []) attrs keys words name file free;
          made = made_name i 110 names contents (contents ++ [] ∷ []) keys words (omega (arith, first)) (omega (arith, length-append {A = List ℕ} contents ([] ∷ []))) made;
        };
        one_event = λ sizes stamp. refl;
      }

  -- a link
  link_goes : i % 8 ≢ 0 → i ≤ 32 → GoesOn i here (Link (path_of (codes "a")) (path_of (numbered 108 i)))
  link_goes other few =
      let name : List ℕ = numbered 108 i in
      let free : IsFree (slots_with names) name = number_free 108 i names (omega (arith, few)) refl refl made.earlier in
      let slotted : Files = files_with (names ++ in_root name ∷ []) (held ++ None ∷ []) contents attrs keys words in
      record {
        accepted =
            four_fail (no_file here (path_of (codes "a"))) (no_parent here (path_of name)) (taken here (path_of name)) (names_full here (path_of name))
            (file_found here (path_of (codes "a")) 0 (file_a names held contents attrs keys words)) refl (name_untaken name free) (name_fits name few);
        behind = record {
          names = names ++ in_root name ∷ [];
          held = at_place (Some (length names)) (λ _. Some 0) (held ++ None ∷ []);
          contents = contents;
          attrs = attrs;
          keys = keys;
          words = words;
          shape =
              ap (λ (s : Files). with_file s (path_of name) (file_of s (path_of (codes "a")))) (slot_next names held contents attrs keys words name free)
              ∙ ap (with_file slotted (path_of name)) (file_a (names ++ in_root name ∷ []) (held ++ None ∷ []) contents attrs keys words)
              ∙ file_next names held contents attrs keys words name (Some 0) free;
          made = made_name i 108 names contents contents keys words other (omega arith) made;
        };
        one_event = λ sizes stamp. refl;
      }

  -- a write of one byte within the first eight
  write_goes : (name : List ℕ) (file at b : ℕ) → file_of here (path_of name) ≡ Some file → i % 8 ≢ 0 → at < 8 → GoesOn i here (Write (path_of name) at (b ∷ []))
  write_goes name file at b is other low =
      let after : List (List ℕ) = at_place (file_of here (path_of name)) (overwritten at (b ∷ [])) contents in
      record {
        accepted = two_fail (no_file here (path_of name)) (too_long (at + 1)) (file_found here (path_of name) file is) (ap (λ (t : Bool). kind_if t FileTooLong) (fits_within 65536 (at + 1) (omega (arith, low))));
        behind = record {
          names = names;
          held = held;
          contents = after;
          attrs = attrs;
          keys = keys;
          words = words;
          shape = refl;
          made = made_same i names contents after keys keys words other (length-at_place (file_of here (path_of name)) (overwritten at (b ∷ [])) contents) made.one_key made;
        };
        one_event = λ sizes stamp. byte_event sizes stamp (file_of here (path_of name)) (size_of here (file_of here (path_of name))) at b;
      }

  -- a truncation to eight bytes
  truncate_goes : i % 8 ≢ 0 → GoesOn i here (Truncate (path_of (codes "b")) 8)
  truncate_goes other =
      let file : Option ℕ = file_of here (path_of (codes "b")) in
      record {
        accepted = two_fail (no_file here (path_of (codes "b"))) (too_long 8) (file_found here (path_of (codes "b")) 1 (file_b names held contents attrs keys words)) refl;
        behind = record {
          names = names;
          held = held;
          contents = at_place file (resized 8) contents;
          attrs = attrs;
          keys = keys;
          words = words;
          shape = refl;
          made = made_same i names contents (at_place file (resized 8) contents) keys keys words other (length-at_place file (resized 8) contents) made.one_key made;
        };
        one_event = λ sizes stamp. refl;
      }

  -- an attribute
  attr_shape : (key : Option ℕ) (value : ℕ) → (after : List AttrValue) × (with_attr (files_with names held contents attrs (noted keys (codes "k")) words) (Some 0) key value ≡ files_with names held contents after (noted keys (codes "k")) words)
  attr_shape None value = (attrs, refl)
  attr_shape (Some key) value = (with_value attrs (record { file = 0; key = key; value = value }) (value_place attrs 0 key), refl)

  key_free : keys_full here (codes "k") ≡ None
  key_free = elim made.one_key [
    | inl none ↦ rw none refl
    | inr one ↦ rw one refl
  ]

  attr_goes : (value : ℕ) → i % 8 ≢ 0 → GoesOn i here (Attr (path_of (codes "a")) (codes "k") value)
  attr_goes value other =
      let key : Option ℕ = text_number (noted keys (codes "k")) (codes "k") in
      let noted_here : Files = files_with names held contents attrs (noted keys (codes "k")) words in
      let after = attr_shape key value in
      record {
        accepted = two_fail (no_file here (path_of (codes "a"))) (keys_full here (codes "k")) (file_found here (path_of (codes "a")) 0 (file_a names held contents attrs keys words)) key_free;
        behind = record {
          names = names;
          held = held;
          contents = contents;
          attrs = after.0;
          keys = noted keys (codes "k");
          words = words;
          shape = ap (λ (o : Option ℕ). with_attr noted_here o key value) (file_a names held contents attrs (noted keys (codes "k")) words) ∙ after.1;
          made = made_same i names contents contents keys (noted keys (codes "k")) words other refl (inr (one_key_noted keys made.one_key)) made;
        };
        one_event = λ sizes stamp. refl;
      }

  -- one of two calls
  chosen : (test : Bool) (c d : Call) → (test ≡ true → GoesOn i here c) → (test ≡ false → GoesOn i here d) → GoesOn i here (if test then c else d)
  chosen true c d one other = one refl
  chosen false c d one other = other refl

  change_goes : (word : ℕ) → i % 8 ≢ 0 → i ≤ 32 → GoesOn i here (generated_change i word)
  unfolding generated_change
  change_goes word other few =
      let low : word / 5 % 8 < 8 = omega arith in
      chosen (word % 5 == 0) _ _ (λ _. write_goes (codes "a") 0 (word / 5 % 8) (48 + i % 10) (file_a names held contents attrs keys words) other low) (λ _.
      chosen (word % 5 == 1) _ _ (λ _. write_goes (codes "b") 1 (word / 5 % 8) (48 + i % 10) (file_b names held contents attrs keys words) other low) (λ _.
      chosen (word % 5 == 2) _ _ (λ _. attr_goes i other) (λ _.
      chosen (word % 5 == 3) _ _ (λ _. truncate_goes other) (λ _. link_goes other few))))

  -- any call
  made_goes : (word : ℕ) → i ≤ 32 → GoesOn i here (generated_call i word)
  unfolding generated_call
  made_goes word few =
      chosen (i % 8 == 0) _ _ (λ _. mark_goes) (λ other.
      chosen (i % 8 == 1) _ _ (λ first. create_goes (is_equal first) few) (λ _. change_goes word (is_unequal other) few))
    where
      is_equal : i % 8 == 1 ≡ true → i % 8 ≡ 1
      is_equal h = grind (arith, nat_tests, h)

      is_unequal : i % 8 == 0 ≡ false → i % 8 ≢ 0
      is_unequal h e = grind (arith, nat_tests, h, e)

-- call i on the files before it
pub call_goes : (i word : ℕ) (s : Files) → i ≤ 32 → IsBefore i s → GoesOn i s (generated_call i word)
call_goes i word s few before =
    let P : Files → Type 0 = λ t. GoesOn i t (generated_call i word) in
    subst P (sym before.shape) (made_goes i before.names before.held before.contents before.attrs before.keys before.words before.made word few)
