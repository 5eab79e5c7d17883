-- The tables of names and words only grow: what has a number keeps it.
use Rattle.std.proofs.Common.{◌≡◌, ℕ, ◌<◌, Bool, true, List, [], ◌∷◌, ◌++◌, length, get_or, fold, bytes_eq, Option, Some, None, is_some, refl, sym, ◌∙◌, ap, inl, inr, arith, length-append, append_assoc}
use Rattle.std.specs.List.{position}
use Rattle.std.specs.Prelude.{option_and_then}
use Rattle.std.proofs.Math.Seq.{get_or-append_seam}
use Rattle.std.proofs.lemmas.Bool.{cases_Bool}
use Rattle.std.proofs.lemmas.List.{append-nil}
use Rattle.fer_events.specs.declared.tables.SlotName.{SlotName}
use Rattle.fer_events.specs.Paths.{entry_number, same_entry, path_entry, path_slot}
use Rattle.fer_events.specs.Truth.{text_number}
use Rattle.fer_events.proofs.GeneralPlaces.{passes_within}
use Rattle.call_events.specs.declared.files.Files.{Files}
use Rattle.call_events.specs.Found.{is_dir, slot_of}
use Rattle.call_events.specs.Changes.{noted, with_entry, with_attr}
use Rattle.call_events.specs.Asking.{with_asked}
use Rattle.call_events.proofs.Whole.{bytes_eq-refl, place_is, found_more}

-- the same directories, and more names and words behind those that were there
pub record Extends (s t : Files) : Type 0 where
  pub dirs : t.dirs ≡ s.dirs
  pub more_slots : List SlotName
  pub slots : t.slots ≡ s.slots ++ more_slots
  pub more_words : List (List ℕ)
  pub words : t.words ≡ s.words ++ more_words

-- files with the same tables
pub alike : (s t : Files) → t.dirs ≡ s.dirs → t.slots ≡ s.slots → t.words ≡ s.words → Extends s t
alike s t dirs slots words = record { dirs = dirs; more_slots = []; slots = slots ∙ sym (append-nil s.slots); more_words = []; words = words ∙ sym (append-nil s.words) }

pub extends_on : (s t u : Files) → Extends s t → Extends t u → Extends s u
extends_on s t u a b = record {
  dirs = b.dirs ∙ a.dirs;
  more_slots = a.more_slots ++ b.more_slots;
  slots = b.slots ∙ ap (λ (l : List SlotName). l ++ b.more_slots) a.slots ∙ append_assoc s.slots a.more_slots b.more_slots;
  more_words = a.more_words ++ b.more_words;
  words = b.words ∙ ap (λ (l : List (List ℕ)). l ++ b.more_words) a.words ∙ append_assoc s.words a.more_words b.more_words;
}

pub entry_extends : (s : Files) (o : Option SlotName) → Extends s (with_entry s o)
entry_extends s None = alike s s refl refl refl
entry_extends s (Some e) = elim (cases_Bool (is_some (entry_number s.slots e))) [
  | inl old ↦ rw old (alike s s refl refl refl)
  | inr new ↦ rw new (record { dirs = refl; more_slots = e ∷ []; slots = refl; more_words = []; words = sym (append-nil s.words) })
]

pub word_extends : (s : Files) (word : List ℕ) → Extends s (record s { words = noted s.words word })
word_extends s word = elim (cases_Bool (is_some (text_number s.words word))) [
  | inl old ↦ rw old (alike s s refl refl refl)
  | inr new ↦ rw new (record { dirs = refl; more_slots = []; slots = sym (append-nil s.slots); more_words = word ∷ []; words = refl })
]

pub attr_extends : (s : Files) (file key : Option ℕ) (value : ℕ) → Extends s (with_attr s file key value)
attr_extends s None key value = alike s s refl refl refl
attr_extends s (Some f) None value = alike s s refl refl refl
attr_extends s (Some f) (Some k) value = alike s (with_attr s (Some f) (Some k) value) refl refl refl

asked_extends : (s : Files) (path : List (List ℕ)) → Extends s (with_asked s path)
asked_extends s path = elim (cases_Bool (is_dir s path)) [
  | inl dir ↦ rw dir (alike s s refl refl refl)
  | inr name ↦ rw name (entry_extends s (path_entry s.dirs path))
]

-- the paths that a question asks for
pub asks_extend : (s : Files) (paths : List (List (List ℕ))) → Extends s (fold with_asked s paths)
asks_extend s [] = alike s s refl refl refl
asks_extend s (path ∷ paths) = extends_on s (with_asked s path) (fold with_asked (with_asked s path) paths) (asked_extends s path) (asks_extend (with_asked s path) paths)

-- what is found stays where it is
found_stays : {X : Type 0} (p : X → Bool) (xs ys : List X) (k : ℕ) → position p xs ≡ Some k → position p (xs ++ ys) ≡ Some k
found_stays p xs ys k h = found_more p xs ys (ap is_some h) ∙ h

entry_stays : (slots more : List SlotName) (o : Option SlotName) (k : ℕ) → option_and_then (entry_number slots) o ≡ Some k → option_and_then (entry_number (slots ++ more)) o ≡ Some k
entry_stays slots more None k h = h
entry_stays slots more (Some e) k h = found_stays (λ slot. same_entry slot e) slots more k h

-- a path keeps its slot
pub slot_stays : (s t : Files) (path : List (List ℕ)) (k : ℕ) → Extends s t → slot_of s path ≡ Some k → slot_of t path ≡ Some k
slot_stays s t path k more h =
    ap (λ (dirs : List (List (List ℕ))). path_slot dirs t.slots path) more.dirs
    ∙ ap (λ (slots : List SlotName). path_slot s.dirs slots path) more.slots
    ∙ entry_stays s.slots more.more_slots (path_entry s.dirs path) k h

-- a word keeps its number
pub word_stays : (s t : Files) (word : List ℕ) (w : ℕ) → Extends s t → text_number s.words word ≡ Some w → text_number t.words word ≡ Some w
word_stays s t word w more h = ap (λ (words : List (List ℕ)). text_number words word) more.words ∙ found_stays (λ entry. bytes_eq entry word) s.words more.more_words w h

last_word : (table : List (List ℕ)) (text : List ℕ) → is_some (text_number (table ++ text ∷ []) text) ≡ true
last_word table text =
    let there : length table < length (table ++ text ∷ []) = omega (arith, length-append table (text ∷ [])) in
    let passes : bytes_eq (get_or (table ++ text ∷ []) (length table) text) text ≡ true = ap (λ (x : List ℕ). bytes_eq x text) (get_or-append_seam table text [] text) ∙ bytes_eq-refl text in
    ap is_some (place_is (λ entry. bytes_eq entry text) (table ++ text ∷ []) (passes_within (λ entry. bytes_eq entry text) (table ++ text ∷ []) (length table) text there passes))

-- a word that was noted has a number
pub noted_there : (table : List (List ℕ)) (text : List ℕ) → is_some (text_number (noted table text) text) ≡ true
noted_there table text = elim (cases_Bool (is_some (text_number table text))) [
  | inl old ↦ rw old old
  | inr new ↦ rw new (last_word table text)
]
