-- What the calls so far made, with what call i makes.
use Rattle.std.proofs.Common.{◌≡◌, ◌≢◌, ℕ, ◌+◌, ◌%◌, ◌<◌, ◌≤◌, ◌⊎◌, inl, inr, true, List, [], ◌∷◌, ◌++◌, length, All, refl, sym, ◌∙◌, ap, arith, length-append}
use Rattle.std.specs.Prelude.{codes, is_some, bytes_eq}
use Rattle.std.proofs.lemmas.Bool.{cases_Bool, cases_eq}
use Rattle.std.proofs.lemmas.List.Elements.{All-push, All-weaker}
use Rattle.fer_events.specs.declared.tables.SlotName.{SlotName}
use Rattle.fer_events.specs.Truth.{text_number}
use Rattle.call_events.specs.Changes.{noted}
use Rattle.call_events.proofs.Whole.{bytes_eq-refl, found_more}
use Rattle.model_library.specs.Generated.{numbered}
use Rattle.generated_tests.proofs.Places.{last_found}
use Rattle.generated_tests.proofs.Shapes.{in_root, IsEarlierName, AreMade}

still_earlier : (i : ℕ) (slot : SlotName) → IsEarlierName i slot → IsEarlierName (i + 1) slot
still_earlier i slot h = record { letter = h.letter; number = h.number; earlier = omega (arith, h.earlier); is = h.is }

all_earlier : (i : ℕ) (names : List SlotName) → All (IsEarlierName i) names → All (IsEarlierName (i + 1)) names
all_earlier i names earlier = All-weaker (IsEarlierName i) (IsEarlierName (i + 1)) (still_earlier i) names earlier

-- a call that is no mark
unmarked : (i : ℕ) (words : List (List ℕ)) → i % 8 ≢ 0 → ((j : ℕ) → 0 < j → j < i → j % 8 ≡ 0 → is_some (text_number words (numbered 109 j)) ≡ true)
    → (j : ℕ) → 0 < j → j < i + 1 → j % 8 ≡ 0 → is_some (text_number words (numbered 109 j)) ≡ true
unmarked i words other marked j above below mark = elim (cases_eq j i) [
  | inl same ↦ absurd (other (ap (λ (k : ℕ). k % 8) (sym same) ∙ mark))
  | inr apart ↦ marked j above (omega (arith, below, apart)) mark
]

-- a call that makes no name and no mark, the files being as many as before
pub made_same : (i : ℕ) (names : List SlotName) (contents after : List (List ℕ)) (keys keys_after words : List (List ℕ)) → i % 8 ≢ 0 → length after ≡ length contents → (keys_after ≡ []) ⊎ (keys_after ≡ codes "k" ∷ [])
    → AreMade i names contents keys words → AreMade (i + 1) names after keys_after words
made_same i names contents after keys keys_after words other same one made = record {
  earlier = all_earlier i names made.earlier;
  few_names = omega (arith, made.few_names);
  few_files = omega (arith, made.few_files, same);
  one_key = one;
  marked = unmarked i words other made.marked;
}

-- a call that makes a name, and at most one file
pub made_name : (i letter : ℕ) (names : List SlotName) (contents after : List (List ℕ)) (keys words : List (List ℕ)) → i % 8 ≢ 0 → length after ≤ length contents + 1
    → AreMade i names contents keys words → AreMade (i + 1) (names ++ in_root (numbered letter i) ∷ []) after keys words
made_name i letter names contents after keys words other one made = record {
  earlier = All-push (IsEarlierName (i + 1)) names (in_root (numbered letter i)) (all_earlier i names made.earlier) (record { letter = letter; number = i; earlier = omega arith; is = refl });
  few_names = omega (arith, made.few_names, length-append names (in_root (numbered letter i) ∷ []));
  few_files = omega (arith, made.few_files, one);
  one_key = made.one_key;
  marked = unmarked i words other made.marked;
}

-- a text that has a number keeps it
noted_keeps : (words : List (List ℕ)) (word text : List ℕ) → is_some (text_number words text) ≡ true → is_some (text_number (noted words word) text) ≡ true
noted_keeps words word text has = elim (cases_Bool (is_some (text_number words word))) [
  | inl old ↦ rw old has
  | inr new ↦ rw new (ap is_some (found_more (λ entry. bytes_eq entry text) words (word ∷ []) has) ∙ has)
]

noted_has : (words : List (List ℕ)) (word : List ℕ) → is_some (text_number (noted words word) word) ≡ true
noted_has words word = elim (cases_Bool (is_some (text_number words word))) [
  | inl old ↦ rw old old
  | inr new ↦ rw new (last_found (λ entry. bytes_eq entry word) words word (bytes_eq-refl word))
]

-- a mark
pub made_mark : (i : ℕ) (names : List SlotName) (contents : List (List ℕ)) (keys words : List (List ℕ)) → AreMade i names contents keys words → AreMade (i + 1) names contents keys (noted words (numbered 109 i))
made_mark i names contents keys words made = record {
  earlier = all_earlier i names made.earlier;
  few_names = omega (arith, made.few_names);
  few_files = omega (arith, made.few_files);
  one_key = made.one_key;
  marked = λ j above below mark. elim (cases_eq j i) [
    | inl same ↦ ap (λ (k : ℕ). is_some (text_number (noted words (numbered 109 i)) (numbered 109 k))) same ∙ noted_has words (numbered 109 i)
    | inr apart ↦ noted_keeps words (numbered 109 i) (numbered 109 j) (made.marked j above (omega (arith, below, apart)) mark)
  ];
}
