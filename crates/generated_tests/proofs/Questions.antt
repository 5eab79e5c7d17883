-- A generated question asks for words that calls marked, and for few paths.
use Rattle.std.proofs.Common.{◌≡◌, ℕ, zero, suc, ◌+◌, ◌-◌, ◌*◌, ◌%◌, ◌<◌, ◌≤◌, inl, inr, Bool, true, false, nat_lt, List, [], ◌∷◌, ◌++◌, length, fold, Option, Some, None, All, refl, sym, ◌∙◌, ap, subst, arith, length-append}
use Rattle.std.specs.Prelude.{is_some, is_none}
use Rattle.std.specs.Option.{option_or}
use Rattle.std.proofs.lemmas.Bool.{cases_Bool}
use Rattle.std.proofs.lemmas.Bool.Decides.{nat_tests}
use Rattle.std.proofs.lemmas.List.Elements.{All-nil, All-cons, All-append}
use Rattle.std.proofs.lemmas.List.Folds.{list_any_none}
use Rattle.litmus_syntax.specs.declared.pred.Pred as whole
use Rattle.litmus_syntax.specs.declared.pred.Pred.{Pred, fold-roll-Pred}
use Rattle.litmus_syntax.specs.declared.pred.Pred.TheOpen as atom
use Rattle.litmus_syntax.specs.declared.pred.Pred.TheVariants.{False, Exists, Seen, Not, And, Or}
use Rattle.fer_events.specs.declared.tables.SlotName.{SlotName}
use Rattle.fer_events.specs.Paths.{entry_number}
use Rattle.fer_events.specs.Truth.{text_number}
use Rattle.call_events.specs.declared.files.Files.{Files}
use Rattle.call_events.specs.declared.call_kind.CallKind.TheVariants.{UnknownMark, TooMany}
use Rattle.call_events.specs.Found.{is_dir, entry_of}
use Rattle.call_events.specs.Refusals.{kind_if}
use Rattle.call_events.specs.Changes.{with_entry}
use Rattle.call_events.specs.Asking.{words_asked_of, words_asked, paths_asked_of, paths_asked, with_asked, asked, has_unknown, question_refusal}
use Rattle.model_library.specs.Generated.{numbered, path_of, lost_before, generated_pred}

-- what the parts of a generated question ask for
words_false : words_asked False ≡ []
unfolding whole.roll-Pred denote.Hole.Carrier.roll
words_false = fold-roll-Pred (List (List ℕ)) words_asked_of atom.False

words_seen : (word : List ℕ) → words_asked (Seen word) ≡ word ∷ []
unfolding whole.roll-Pred denote.Hole.Carrier.roll
words_seen word = fold-roll-Pred (List (List ℕ)) words_asked_of (atom.Seen word)

words_exists : (path : List (List ℕ)) → words_asked (Exists path) ≡ []
unfolding whole.roll-Pred denote.Hole.Carrier.roll
words_exists path = fold-roll-Pred (List (List ℕ)) words_asked_of (atom.Exists path)

words_not : (p : Pred) → words_asked (Not p) ≡ words_asked p
unfolding whole.roll-Pred denote.Hole.Carrier.roll
words_not p = fold-roll-Pred (List (List ℕ)) words_asked_of (atom.Not p)

words_and : (p q : Pred) → words_asked (And p q) ≡ words_asked p ++ words_asked q
unfolding whole.roll-Pred denote.Hole.Carrier.roll
words_and p q = fold-roll-Pred (List (List ℕ)) words_asked_of (atom.And p q)

words_or : (p q : Pred) → words_asked (Or p q) ≡ words_asked p ++ words_asked q
unfolding whole.roll-Pred denote.Hole.Carrier.roll
words_or p q = fold-roll-Pred (List (List ℕ)) words_asked_of (atom.Or p q)

paths_false : paths_asked False ≡ []
unfolding whole.roll-Pred denote.Hole.Carrier.roll
paths_false = fold-roll-Pred (List (List (List ℕ))) paths_asked_of atom.False

paths_seen : (word : List ℕ) → paths_asked (Seen word) ≡ []
unfolding whole.roll-Pred denote.Hole.Carrier.roll
paths_seen word = fold-roll-Pred (List (List (List ℕ))) paths_asked_of (atom.Seen word)

paths_exists : (path : List (List ℕ)) → paths_asked (Exists path) ≡ path ∷ []
unfolding whole.roll-Pred denote.Hole.Carrier.roll
paths_exists path = fold-roll-Pred (List (List (List ℕ))) paths_asked_of (atom.Exists path)

paths_not : (p : Pred) → paths_asked (Not p) ≡ paths_asked p
unfolding whole.roll-Pred denote.Hole.Carrier.roll
paths_not p = fold-roll-Pred (List (List (List ℕ))) paths_asked_of (atom.Not p)

paths_and : (p q : Pred) → paths_asked (And p q) ≡ paths_asked p ++ paths_asked q
unfolding whole.roll-Pred denote.Hole.Carrier.roll
paths_and p q = fold-roll-Pred (List (List (List ℕ))) paths_asked_of (atom.And p q)

paths_or : (p q : Pred) → paths_asked (Or p q) ≡ paths_asked p ++ paths_asked q
unfolding whole.roll-Pred denote.Hole.Carrier.roll
paths_or p q = fold-roll-Pred (List (List (List ℕ))) paths_asked_of (atom.Or p q)

-- one mark asks for its word, and for the file that was made seven calls before it
pub lost_words : (i : ℕ) → words_asked (lost_before i) ≡ numbered 109 i ∷ []
lost_words i =
    let there : Pred = Exists (path_of (numbered 110 (i - 7))) in
    words_and (Seen (numbered 109 i)) (Not there)
    ∙ ap (λ (ws : List (List ℕ)). ws ++ words_asked (Not there)) (words_seen (numbered 109 i))
    ∙ ap (λ (ws : List (List ℕ)). numbered 109 i ∷ ws) (words_not there ∙ words_exists (path_of (numbered 110 (i - 7))))

pub lost_paths : (i : ℕ) → paths_asked (lost_before i) ≡ path_of (numbered 110 (i - 7)) ∷ []
lost_paths i =
    let there : Pred = Exists (path_of (numbered 110 (i - 7))) in
    paths_and (Seen (numbered 109 i)) (Not there)
    ∙ ap (λ (ps : List (List (List ℕ))). ps ++ paths_asked (Not there)) (paths_seen (numbered 109 i))
    ∙ paths_not there ∙ paths_exists (path_of (numbered 110 (i - 7)))

-- each mark up to the last
abbrev pub AreMarked : ℕ → List (List ℕ) → Type 0
AreMarked last words = (i : ℕ) → 0 < i → i ≤ last → i % 8 ≡ 0 → is_some (text_number words (numbered 109 i)) ≡ true

abbrev IsKnown : List (List ℕ) → List ℕ → Type 0
IsKnown words word = is_none (text_number words word) ≡ false

known : {X : Type 0} (o : Option X) → is_some o ≡ true → is_none o ≡ false
known None h = cc
known (Some x) h = refl

lost_known : (words : List (List ℕ)) (n : ℕ) → AreMarked (8 * suc n) words → All (IsKnown words) (words_asked (lost_before (8 * suc n)))
lost_known words n marked =
    let i : ℕ = 8 * suc n in
    subst (All (IsKnown words)) (sym (lost_words i))
    (All-cons (IsKnown words) (numbered 109 i) [] (known (text_number words (numbered 109 i)) (marked i (omega arith) (omega arith) (omega arith))) (All-nil (IsKnown words)))

-- all words that are asked for are known
words_known : (words : List (List ℕ)) (n : ℕ) → AreMarked (8 * n) words → All (IsKnown words) (words_asked (generated_pred n))
words_known words zero marked = subst (All (IsKnown words)) (sym words_false) (All-nil (IsKnown words))
words_known words (suc zero) marked = lost_known words 0 marked
words_known words (suc (suc n)) marked =
    let next : n + 2 ≡ suc (suc n) = omega arith in
    let last : All (IsKnown words) (words_asked (lost_before (8 * (n + 2)))) =
    subst (λ (k : ℕ). All (IsKnown words) (words_asked (lost_before (8 * k)))) (sym next) (lost_known words (suc n) marked) in
    subst (All (IsKnown words)) (sym (words_or (generated_pred (suc n)) (lost_before (8 * (n + 2)))))
    (All-append (IsKnown words) (words_asked (generated_pred (suc n))) (words_asked (lost_before (8 * (n + 2))))
    (words_known words (suc n) (λ i above below mark. marked i above (omega (arith, below)) mark)) last)

-- one path is asked for a mark
paths_few : (n : ℕ) → length (paths_asked (generated_pred n)) ≡ n
paths_few zero = ap (λ (ps : List (List (List ℕ))). length ps) paths_false
paths_few (suc zero) = ap (λ (ps : List (List (List ℕ))). length ps) (lost_paths 8)
paths_few (suc (suc n)) =
    let front : List (List (List ℕ)) = paths_asked (generated_pred (suc n)) in
    let last : length (paths_asked (lost_before (8 * (n + 2)))) ≡ 1 = ap (λ (ps : List (List (List ℕ))). length ps) (lost_paths (8 * (n + 2))) in
    let all = ap (λ (ps : List (List (List ℕ))). length ps) (words_or_paths n) in
    omega (arith, all, last, paths_few (suc n), length-append front (paths_asked (lost_before (8 * (n + 2)))))
  where
    words_or_paths : (n : ℕ) → paths_asked (generated_pred (suc (suc n))) ≡ paths_asked (generated_pred (suc n)) ++ paths_asked (lost_before (8 * (n + 2)))
    words_or_paths n = paths_or (generated_pred (suc n)) (lost_before (8 * (n + 2)))

-- a path that is asked for makes at most one slot
entry_more : (s : Files) (o : Option SlotName) → length (with_entry s o).slots ≤ length s.slots + 1
entry_more s None = omega arith
entry_more s (Some entry) = elim (cases_Bool (is_some (entry_number s.slots entry))) [
  | inl old ↦ rw old (omega arith)
  | inr new ↦ rw new (omega (arith, length-append s.slots (entry ∷ [])))
]

path_more : (s : Files) (path : List (List ℕ)) → length (with_asked s path).slots ≤ length s.slots + 1
path_more s path = elim (cases_Bool (is_dir s path)) [
  | inl dir ↦ rw dir (omega arith)
  | inr name ↦ rw name (entry_more s (entry_of s path))
]

paths_more : (s : Files) (paths : List (List (List ℕ))) → length (fold with_asked s paths).slots ≤ length s.slots + length paths
paths_more s [] = omega arith
paths_more s (path ∷ paths) = omega (arith, path_more s path, paths_more (with_asked s path) paths)

-- the question isn't refused
pub question_fits : (s : Files) (n : ℕ) → AreMarked (8 * n) s.words → length s.slots + n ≤ 64 → question_refusal s (generated_pred n) ≡ None
question_fits s n marked few =
    let pred : Pred = generated_pred n in
    let all_known : has_unknown s pred ≡ false = list_any_none (λ word. is_none (text_number s.words word)) (words_asked pred) (words_known s.words n marked) in
    let long = paths_more s (paths_asked pred) in
    let within : nat_lt 64 (length (asked s pred).slots) ≡ false = within_limit (length (asked s pred).slots) (omega (arith, long, paths_few n, few)) in
    ap (λ (t : Bool). option_or (kind_if t UnknownMark) (kind_if (nat_lt 64 (length (asked s pred).slots)) TooMany)) all_known
    ∙ ap (λ (t : Bool). kind_if t TooMany) within
  where
    within_limit : (n : ℕ) → n ≤ 64 → nat_lt 64 n ≡ false
    within_limit n h = grind (arith, nat_tests, h)
