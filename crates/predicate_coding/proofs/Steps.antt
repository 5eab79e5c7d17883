-- What a turn of a loop adds.
use Rattle.std.proofs.Common.{◌≡◌, ℕ, ◌+◌, ◌<◌, ◌≤◌, Bool, true, false, not, cond, List, [], ◌∷◌, ◌++◌, length, map, filter, take, drop, get_or, ◌-◌, refl, sym, ◌∙◌, ap, subst, arith, append_assoc}
use Rattle.std.specs.List.{flat_map, range_with_len, All}
use Rattle.std.proofs.Math.Seq.{take-length}
use Rattle.std.proofs.lemmas.List.{take_more, map-append}
use Rattle.std.proofs.lemmas.List.Sums.{length-filter, count_by-le-length}
use Rattle.std.proofs.lemmas.List.FromFn.{length-range_with_len}
use Rattle.std.proofs.lemmas.List.Concat.{flat_map-cons}
use Rattle.std.proofs.lemmas.List.Elements.{filter-append, All-map, All-contains}
use Rattle.std.proofs.lemmas.Grind.{flat_map-append}
use Rattle.clause_store.specs.declared.Lit.{Lit}
use Rattle.clause_store.specs.Clauses.{InVars}
use Rattle.clause_store.proofs.GeneralLists.{Contains-from_filter}
use Rattle.fer_events.specs.Tables.{Trace, file_count}
use Rattle.order_coding.proofs.GeneralLists.{range_more, range_within, All-from_contains, All-flat_map}
use Rattle.order_coding.proofs.GeneralGrowth.{append-nil}
use Rattle.value_coding.specs.declared.cell.CodedCell.{CodedCell}
use Rattle.value_coding.specs.Readings.{may_hold}
use Rattle.value_coding.specs.Writers.{writers}
use Rattle.value_coding.specs.LastClauses.{last_lit}
use Rattle.predicate_coding.specs.declared.asked.Asked.{Asked}
use Rattle.predicate_coding.specs.Asking.{reads, suits}
use Rattle.predicate_coding.specs.CellChoices.{choice_value, candidates}
use Rattle.predicate_coding.specs.Fits.{unsuited, unsuited_to, misfits}
use Rattle.predicate_coding.specs.Growing.{if_unsuited, if_read, IsCoded, AreCoded}

flat_one : {A B : Type 0} (f : A → List B) (p : A → Bool) (x : A) (xs : List A) (b : Bool) → flat_map f (cond b (x ∷ filter p xs) (filter p xs)) ≡ cond b (f x) [] ++ flat_map f (filter p xs)
flat_one f p x xs true = flat_map-cons f x (filter p xs)
flat_one f p x xs false = refl

pub flat-filter : {A B : Type 0} (f : A → List B) (p : A → Bool) (xs : List A) → flat_map f (filter p xs) ≡ flat_map (λ x. cond (p x) (f x) []) xs
flat-filter f p [] = refl
flat-filter {A} {B} f p (x ∷ xs) =
    flat_one f p x xs (p x) ∙ ap (λ (ys : List B). cond (p x) (f x) [] ++ ys) (flat-filter f p xs)
    ∙ sym (flat_map-cons (λ x. cond (p x) (f x) []) x xs)

kept_one : {A : Type 0} (f : ℕ → A) (b : Bool) (k : ℕ) → map f (cond (not b) (k ∷ []) []) ≡ cond b [] (f k ∷ [])
kept_one f true k = refl
kept_one f false k = refl

pub unsuited_next :
    (t : Trace) (asked : Asked) (c : CodedCell) (k : ℕ) (old out new : List Lit) → out ≡ old ++ unsuited_to t asked c k
    → new ≡ out ++ if_unsuited t asked c k → new ≡ old ++ unsuited_to t asked c (k + 1)
unsuited_next t asked c k old out new e f =
    let zero_is : 0 + k ≡ k = omega arith in
    let more : unsuited_to t asked c (k + 1) ≡ unsuited_to t asked c k ++ if_unsuited t asked c k =
    ap (λ (xs : List ℕ). map (last_lit c.first) (filter (λ j. not (suits asked c.cell (choice_value t c.cell j))) xs)) (range_more 0 k ∙ ap (λ (n : ℕ). range_with_len 0 k ++ n ∷ []) zero_is)
    ∙ ap (map (last_lit c.first)) (filter-append (λ j. not (suits asked c.cell (choice_value t c.cell j))) (range_with_len 0 k) (k ∷ []))
    ∙ map-append (last_lit c.first) (filter (λ j. not (suits asked c.cell (choice_value t c.cell j))) (range_with_len 0 k)) (filter (λ j. not (suits asked c.cell (choice_value t c.cell j))) (k ∷ []))
    ∙ ap (λ (xs : List Lit). unsuited_to t asked c k ++ xs) (kept_one (last_lit c.first) (suits asked c.cell (choice_value t c.cell k)) k) in
    f ∙ ap (λ (xs : List Lit). xs ++ if_unsuited t asked c k) e ∙ append_assoc old (unsuited_to t asked c k) (if_unsuited t asked c k) ∙ ap (λ (xs : List Lit). old ++ xs) (sym more)

pub flat-next :
    {A B : Type 0} (f : A → List B) (xs : List A) (i : ℕ) (d : A) (old mid new : List B) → i < length xs
    → mid ≡ old ++ flat_map f (take i xs) → new ≡ mid ++ f (get_or xs i d) → new ≡ old ++ flat_map f (take (i + 1) xs)
flat-next {A} {B} f xs i d old mid new l e h =
    let more : flat_map f (take (i + 1) xs) ≡ flat_map f (take i xs) ++ f (get_or xs i d) =
    ap (flat_map f) (take_more xs i d l) ∙ flat_map-append f (take i xs) (get_or xs i d ∷ [])
    ∙ ap (λ (ys : List B). flat_map f (take i xs) ++ ys) (append-nil (f (get_or xs i d))) in
    h ∙ ap (λ (ys : List B). ys ++ f (get_or xs i d)) e ∙ append_assoc old (flat_map f (take i xs)) (f (get_or xs i d)) ∙ ap (λ (ys : List B). old ++ ys) (sym more)

pub misfits-flat : (t : Trace) (cells : List CodedCell) (asked : Asked) (file : ℕ) → misfits t cells asked file ≡ flat_map (if_read t asked file) cells
misfits-flat t cells asked file = flat-filter (unsuited t asked) (λ c. reads asked file c.cell) cells

-- misfits are of variables that are there
pub misfits_within :
    (t : Trace) (n : ℕ) (cells : List CodedCell) (asked : Asked) (file : ℕ) → AreCoded t n cells → All (InVars n) (misfits t cells asked file)
misfits_within t n cells asked file all =
    All-flat_map (InVars n) (unsuited t asked) (filter (λ c. reads asked file c.cell) cells) (λ c hc.
    let low = All-contains (IsCoded t n) cells c all (Contains-from_filter (λ c. reads asked file c.cell) cells c hc).0 in
    All-map (InVars n) (last_lit c.first) (filter (λ j. not (suits asked c.cell (choice_value t c.cell j))) (range_with_len 0 (length (writers t.events c.cell) + 1)))
    (All-from_contains (λ j. InVars n (last_lit c.first j)) _ (λ j hj.
    let is = range_within 0 (length (writers t.events c.cell) + 1) j (Contains-from_filter (λ j. not (suits asked c.cell (choice_value t c.cell j))) _ j hj).0 in
    (omega (arith, low.some), omega (arith, low.room, ap length low.writers, is.1)))))

pub misfits_all :
    (t : Trace) (cells : List CodedCell) (asked : Asked) (file i : ℕ) (old out : List Lit) → i ≡ length cells
    → out ≡ old ++ flat_map (if_read t asked file) (take i cells) → out ≡ old ++ misfits t cells asked file
misfits_all t cells asked file i old out e h =
    h
    ∙ ap (λ (xs : List CodedCell). old ++ flat_map (if_read t asked file) xs) (ap (λ (k : ℕ). take k cells) e ∙ take-length cells)
    ∙ ap (λ (xs : List Lit). old ++ xs) (sym (misfits-flat t cells asked file))

pub rest-named :
    (all : List Lit) (fits : Lit) (xs : List Lit) (n : ℕ) → all ≡ fits ∷ xs → All (InVars n) xs
    → All (InVars n) (take (length all - 1) (drop 1 all))
rest-named all fits xs n e h =
    let one : length (fits ∷ xs) - 1 ≡ length xs = omega arith in
    subst (λ (ys : List Lit). All (InVars n) (take (length ys - 1) (drop 1 ys))) (sym e)
    (subst (λ (ys : List Lit). All (InVars n) ys) (sym (ap (λ (k : ℕ). take k xs) one ∙ take-length xs)) h)

pub candidates-few : (t : Trace) (slot : ℕ) → length (candidates t slot) ≤ file_count t
candidates-few t slot =
    omega (
      arith,
      length-filter (may_hold t slot) (range_with_len 0 (file_count t)),
      count_by-le-length (may_hold t slot) (range_with_len 0 (file_count t)),
      length-range_with_len 0 (file_count t),
    )
