-- The names of atoms are the words that are counted.
use Rattle.std.proofs.Common.{◌≡◌, ℕ, Bool, true, false, List, [], ◌∷◌, bytes_eq, refl, ◌∙◌, ap}
use Rattle.std.specs.Bool.{Decides}
use Rattle.std.proofs.lemmas.Bool.{or_from}
use Rattle.std.proofs.lemmas.Slice.Eq.{bytes_eq-Decides}
use Rattle.std.specs.List.{list_any}
use Rattle.litmus_syntax.specs.Counts.{atom_words}
use Rattle.predicate_reader.specs.declared.atoms.AtomName.{AtomName}
use Rattle.predicate_reader.specs.declared.atoms.AtomName.TheVariants as name
use Rattle.predicate_reader.specs.AtomNames.{atom_text}

-- the fact holds of each item
abbrev Each : (List ℕ → Type 0) → List (List ℕ) → Type 0
Each P [] = Unit {0}
Each P (x ∷ xs) = P x × Each P xs

name_counted : (n : AtomName) → list_any (bytes_eq (atom_text n)) atom_words ≡ true
name_counted name.True = refl
name_counted name.False = refl
name_counted name.Exists = refl
name_counted name.Same = refl
name_counted name.Size = refl
name_counted name.Content = refl
name_counted name.Bytes = refl
name_counted name.Attr = refl
name_counted name.Seen = refl

pub is_counted : (word : List ℕ) (n : AtomName) → word ≡ atom_text n → list_any (bytes_eq word) atom_words ≡ true
is_counted word n same = ap (λ (w : List ℕ). list_any (bytes_eq w) atom_words) same ∙ name_counted n

differs : (b : Bool) (P : Type 0) → Decides b P → (P → ⊥) → b ≡ false
differs true P decides none = absurd (none (decides.0 refl))
differs false P decides none = refl

-- a word is none of a list's words where it equals none of them
none_equal : (word : List ℕ) (words : List (List ℕ)) → Each (λ (w : List ℕ). word ≡ w → ⊥) words → list_any (bytes_eq word) words ≡ false
none_equal word [] none = refl
none_equal word (w ∷ ws) none =
    or_from (bytes_eq word w) (list_any (bytes_eq word) ws) (differs (bytes_eq word w) (word ≡ w) (bytes_eq-Decides word w) none.0)
    (none_equal word ws none.1)

pub is_not_counted : (word : List ℕ) → ((n : AtomName) → word ≡ atom_text n → ⊥) → list_any (bytes_eq word) atom_words ≡ false
is_not_counted word none = none_equal word atom_words
    (none name.Exists, (none name.Same, (none name.Size, (none name.Content, (none name.Bytes, (none name.Attr, (none name.Seen, (none name.True, (none name.False, tt)))))))))
