-- Names that a question asks for change no file of a path.
use Rattle.std.proofs.Common.{◌≡◌, ◌≢◌, ℕ, ◌-◌, ◌<◌, ◌≤◌, ◌⊎◌, ◌==◌, inl, inr, Bool, true, false, ◌&&◌, List, [], ◌∷◌, ◌++◌, length, fold, replicate, get_or, bytes_eq, Option, Some, None, is_some, IfSome, slice_get, refl, sym, ◌∙◌, ap, subst, arith, length-append}
use Rattle.std.specs.List.{AllPairs, position}
use Rattle.std.specs.Option.{option_map}
use Rattle.std.specs.Prelude.{option_and_then, unwrap_or}
use Rattle.std.proofs.Math.Seq.{get_or-append_seam}
use Rattle.std.proofs.lemmas.Bool.{cases_Bool, cases_eq, cases_lt, and_parts}
use Rattle.std.proofs.lemmas.Bool.Decides.{nat_tests}
use Rattle.std.proofs.lemmas.List.{append-nil, get_or_append_left}
use Rattle.std.proofs.lemmas.List.Elements.{All-weaker}
use Rattle.std.proofs.lemmas.List.Quantifiers.{position-Some}
use Rattle.std.proofs.lemmas.Option.{slice_get_cases, unwrap_or-slice_get}
use Rattle.fer_events.specs.declared.tables.SlotName.{SlotName}
use Rattle.fer_events.specs.Paths.{same_path, slot_path}
use Rattle.fer_events.specs.Truth.{item_at}
use Rattle.fer_events.proofs.GeneralPlaces.{fresh}
use Rattle.call_events.specs.declared.files.Files.{Files}
use Rattle.fer_events.specs.Paths.{put_front, split_last, name_in, entry_number, same_entry}
use Rattle.call_events.specs.Found.{dir_number, is_dir, entry_of, slot_of, file_of}
use Rattle.call_events.specs.Changes.{with_entry}
use Rattle.call_events.specs.Asking.{with_asked}
use Rattle.call_events.proofs.Frames.{filled, filled_more}
use Rattle.call_events.proofs.Whole.{found_more, get_more}

abbrev held_at : List (Option ℕ) → Option ℕ → Option ℕ
held_at held slot = option_and_then (λ h. h) (item_at held slot)

-- what is behind holds nothing
late_none : (held : List (Option ℕ)) (o : Option ℕ) → IfSome o (λ k. length held ≤ k) → held_at (held ++ None ∷ []) o ≡ None
late_none held None late = refl
late_none held (Some k) late =
    let all : List (Option ℕ) = held ++ None ∷ [] in
    let holds : Option (Option ℕ) → Option ℕ = λ o. option_and_then (λ h. h) o in
    elim ((slice_get_cases all k).1) as (λ _. held_at all (Some k) ≡ None) [
      | inl there ↦
          let place : k ≡ length held = omega (arith, there.1, late, length-append {A = Option ℕ} held (None ∷ [])) in
          let first : there.0 ≡ None = sym there.3 ∙ ap (λ (n : ℕ). get_or all n there.0) place ∙ get_or-append_seam held None [] there.0 in
          ap holds (there.2 ∙ ap Some first)
      | inr past ↦ ap holds past.1
    ]

held_front : (held : List (Option ℕ)) (o : Option ℕ) → IfSome o (λ k. k < length held) → held_at (held ++ None ∷ []) o ≡ held_at held o
held_front held None within = refl
held_front held (Some k) within = elim ((slice_get_cases held k).1) as (λ _. held_at (held ++ None ∷ []) (Some k) ≡ held_at held (Some k)) [
  | inl there ↦ ap (λ (o : Option (Option ℕ)). option_and_then (λ h. h) o) (get_more held (None ∷ []) k there.0 there.2 ∙ sym there.2)
  | inr past ↦ absurd (omega (arith, past.0, within))
]

nothing_is : {X : Type 0} (o : Option X) → is_some o ≡ false → o ≡ None
nothing_is None h = refl
nothing_is (Some x) h = cc

number_within : (slots : List SlotName) (e : SlotName) (o : Option ℕ) → entry_number slots e ≡ o → IfSome o (λ k. k < length slots)
number_within slots e None is = tt
number_within slots e (Some k) is = (position-Some (λ slot. same_entry slot e) slots k e is).0

number_late : (slots : List SlotName) (e e2 : SlotName) (o : Option ℕ) → is_some (entry_number slots e2) ≡ false → entry_number (slots ++ e ∷ []) e2 ≡ o → IfSome o (λ k. length slots ≤ k)
number_late slots e e2 None none is = tt
number_late slots e e2 (Some k) none is =
    let at = position-Some (λ slot. same_entry slot e2) (slots ++ e ∷ []) k e2 is in
    elim (cases_lt k (length slots)) [
      | inl near ↦ absurd (fresh (λ slot. same_entry slot e2) slots none k e2 near (ap (λ (slot : SlotName). same_entry slot e2) (sym (get_or_append_left slots (e ∷ []) e2 k near)) ∙ at.1))
      | inr far ↦ far
    ]

kept_file : (slots : List SlotName) (held : List (Option ℕ)) (e : SlotName) (o : Option SlotName) → length held ≡ length slots
    → held_at (held ++ None ∷ []) (option_and_then (entry_number (slots ++ e ∷ [])) o) ≡ held_at held (option_and_then (entry_number slots) o)
kept_file slots held e None long = refl
kept_file slots held e (Some e2) long = elim (cases_Bool (is_some (entry_number slots e2))) [
  | inl old ↦
      let within : IfSome (entry_number slots e2) (λ k. k < length held) = let P : ℕ → Type 0 = λ n. IfSome (entry_number slots e2) (λ k. k < n) in subst P (sym long) (number_within slots e2 (entry_number slots e2) refl) in
      ap (held_at (held ++ None ∷ [])) (found_more (λ slot. same_entry slot e2) slots (e ∷ []) old) ∙ held_front held (entry_number slots e2) within
  | inr new ↦
      let late : IfSome (entry_number (slots ++ e ∷ []) e2) (λ k. length held ≤ k) =
      let P : ℕ → Type 0 = λ n. IfSome (entry_number (slots ++ e ∷ []) e2) (λ k. n ≤ k) in subst P (sym long) (number_late slots e e2 (entry_number (slots ++ e ∷ []) e2) new refl) in
      late_none held (entry_number (slots ++ e ∷ []) e2) late ∙ ap (held_at held) (sym (nothing_is (entry_number slots e2) new))
]

-- a name that is asked for changes no file of a path
pub record AsksNothing (n : ℕ) (s t : Files) : Type 0 where
  pub long : length t.held ≡ length t.slots
  pub more : length s.held ≤ length t.held
  pub held : length t.held ≤ n → filled n None t.held ≡ filled n None s.held
  pub files : (path : List (List ℕ)) → file_of t path ≡ file_of s path

entry_asks : (n : ℕ) (s : Files) (o : Option SlotName) → length s.held ≡ length s.slots → AsksNothing n s (with_entry s o)
entry_asks n s None long = record { long = long; more = omega arith; held = λ few. refl; files = λ path. refl }
entry_asks n s (Some e) long = elim (cases_Bool (is_some (entry_number s.slots e))) [
  | inl old ↦ rw old (record { long = long; more = omega arith; held = λ few. refl; files = λ path. refl })
  | inr new ↦ rw new (
      let one = length-append {A = Option ℕ} s.held (None ∷ []) in
      record {
        long = omega (arith, one, length-append s.slots (e ∷ []), long);
        more = omega (arith, one);
        held = λ few. filled_more n None s.held (omega (arith, few, one));
        files = λ path. kept_file s.slots s.held e (entry_of s path) long;
      })
]

path_asks : (n : ℕ) (s : Files) (path : List (List ℕ)) → length s.held ≡ length s.slots → AsksNothing n s (with_asked s path)
path_asks n s path long = elim (cases_Bool (is_dir s path)) [
  | inl dir ↦ rw dir (record { long = long; more = omega arith; held = λ few. refl; files = λ path. refl })
  | inr name ↦ rw name (entry_asks n s (entry_of s path) long)
]

pub paths_ask : (n : ℕ) (s : Files) (paths : List (List (List ℕ))) → length s.held ≡ length s.slots → AsksNothing n s (fold with_asked s paths)
paths_ask n s [] long = record { long = long; more = omega arith; held = λ few. refl; files = λ path. refl }
paths_ask n s (path ∷ paths) long =
    let one = path_asks n s path long in
    let rest = paths_ask n (with_asked s path) paths one.long in
    record {
      long = rest.long;
      more = omega (arith, one.more, rest.more);
      held = λ few. rest.held few ∙ one.held (omega (arith, few, rest.more));
      files = λ p. rest.files p ∙ one.files p;
    }

-- all slots hold what those of the files hold, the others nothing
pub all_held : (s : Files) (paths : List (List (List ℕ))) → length s.held ≡ length s.slots → (let a = fold with_asked s paths in filled (length a.slots) None s.held ≡ a.held)
all_held s paths long =
    let a : Files = fold with_asked s paths in
    let asks = paths_ask (length a.slots) s paths long in
    let none : length a.slots - length a.held ≡ 0 = omega (arith, asks.long) in
    sym (asks.held (omega (arith, asks.long))) ∙ ap (λ (k : ℕ). a.held ++ replicate k None) none ∙ append-nil a.held
