-- Slots are found by their directory and the number of their name.
use Rattle.std.proofs.Common.{◌≡◌, ◌≢◌, ℕ, zero, suc, ◌+◌, ◌<◌, ◌≤◌, nat_lt, nat_eq, eqb, ◌==◌, Bool, true, false, true≢false, not, cond, ◌&&◌, ◌||◌, List, [], ◌∷◌, ◌++◌, length, map, get_or, Option, Some, None, is_some, position, All, bytes_eq, refl, sym, ◌∙◌, ap, ap₂, subst, inl, inr, arith, length-append}
use Rattle.std.specs.Prelude.{if◌then◌else◌}
use Rattle.std.specs.Cmp.{partial_equiv_from_equiv}
use Rattle.std.specs.Cmp.Lexicographic.{pointwise, nat_list_eq_equiv}
use Rattle.std.specs.Bool.{Decides}
use Rattle.std.specs.List.{position_or_len, list_any}
use Rattle.std.proofs.lemmas.Bool.{eqb-true, eq-eqb}
use Rattle.std.proofs.lemmas.Bool.Decides.{nat_tests}
use Rattle.std.proofs.lemmas.Slice.Eq.{bytes_eq-Decides}
use Rattle.std.proofs.lemmas.List.Elements.{All-nil, All-cons, All-head, All-tail, All-push, All-weaker}
use Rattle.std.proofs.lemmas.List.Quantifiers.{position-Some}
use Rattle.std.proofs.lemmas.List.{get_or_append_left}
use Rattle.std.proofs.lemmas.List.Folds.{prefix_len-append, list_any-append}
use Rattle.std.proofs.lemmas.Grind.{common_steps}
use Rattle.fer_events.specs.declared.tables.SlotName.{SlotName}
use Rattle.fer_events.specs.Paths.{same_entry, entry_number}
use Rattle.name_tables.specs.Parts.{slot_named, IsOwn}
use Rattle.name_tables.proofs.Places.{position_map, any_map, map_if, found_any, turned}
use Rattle.fer_events.proofs.GeneralPlaces.{found_alike, found_nowhere}

-- a name is found whichever side of the test it stands on
pub turned_name : (names : List (List ℕ)) (name : List ℕ) → position (λ e. pointwise nat_eq e name) names ≡ position (λ e. pointwise nat_eq name e) names
turned_name names name = turned (pointwise nat_eq) (partial_equiv_from_equiv nat_list_eq_equiv) name names

-- names that are equal as bytes are equal
same_names : (a b : List ℕ) → pointwise nat_eq a b ≡ true → a ≡ b
same_names a b told = (bytes_eq-Decides a b).0 told

-- a name has one number
one_number : (names : List (List ℕ)) (name : List ℕ) (n k : ℕ) → position (λ e. pointwise nat_eq name e) names ≡ Some n → IsOwn names k → get_or names k [] ≡ name → k ≡ n
one_number names name n k found own is =
    let same : Some k ≡ Some n = sym own ∙ ap (λ (x : List ℕ). position (λ e. pointwise nat_eq x e) names) is ∙ found in cc

found_name : (names : List (List ℕ)) (name : List ℕ) (n : ℕ) → position (λ e. pointwise nat_eq name e) names ≡ Some n → get_or names n [] ≡ name
found_name names name n found = sym (same_names name (get_or names n []) ((position-Some (λ e. pointwise nat_eq name e) names n [] found).1))

eq_turned : (a b : ℕ) → nat_eq a b ≡ (b == a)
eq_turned a b = grind (arith, nat_tests)

-- a slot is that of a name exactly where its number is the name's
slot_alike : (names : List (List ℕ)) (name : List ℕ) (n dir : ℕ) (slot : ℕ × ℕ) → position (λ e. pointwise nat_eq name e) names ≡ Some n → IsOwn names slot.1
    → (nat_eq dir slot.0 && nat_eq n slot.1) ≡ same_entry (slot_named names slot) (record { dir = dir; name = name })
slot_alike names name n dir slot found own =
    ap₂ (λ (a b : Bool). a && b) (eq_turned dir slot.0) (by_test (nat_eq n slot.1) (bytes_eq (get_or names slot.1 []) name) refl refl)
  where
    by_test : (t u : Bool) → nat_eq n slot.1 ≡ t → bytes_eq (get_or names slot.1 []) name ≡ u → t ≡ u
    by_test true true e f = refl
    by_test false false e f = refl
    by_test true false e f =
        let same : n ≡ slot.1 = eqb-true n slot.1 e in
        let is : get_or names slot.1 [] ≡ name = ap (λ (k : ℕ). get_or names k []) (sym same) ∙ found_name names name n found in
        absurd (true≢false (sym ((bytes_eq-Decides (get_or names slot.1 []) name).1 is) ∙ f))
    by_test false true e f =
        let is : get_or names slot.1 [] ≡ name = same_names (get_or names slot.1 []) name f in
        let same : slot.1 ≡ n = one_number names name n slot.1 found own is in
        absurd (true≢false (sym (eq-eqb n slot.1 (sym same)) ∙ e))

-- a slot of a name that has a number
pub found_slot : (names : List (List ℕ)) (slots : List (ℕ × ℕ)) (dir : ℕ) (name : List ℕ) (n : ℕ) → All (λ slot. IsOwn names slot.1) slots
    → position (λ e. pointwise nat_eq name e) names ≡ Some n
    → position (λ slot. nat_eq dir slot.0 && nat_eq n slot.1) slots ≡ entry_number (map (slot_named names) slots) (record { dir = dir; name = name })
found_slot names slots dir name n own found =
    let entry : SlotName = record { dir = dir; name = name } in
    found_alike (λ slot. nat_eq dir slot.0 && nat_eq n slot.1) (λ slot. same_entry (slot_named names slot) entry) slots
    (All-weaker (λ slot. IsOwn names slot.1) (λ slot. (nat_eq dir slot.0 && nat_eq n slot.1) ≡ same_entry (slot_named names slot) entry)
    (λ slot is. slot_alike names name n dir slot found is) slots own)
    ∙ sym (position_map (slot_named names) (λ slot. same_entry slot entry) slots)

other_slot : (names : List (List ℕ)) (name : List ℕ) (dir : ℕ) (slot : ℕ × ℕ) → position (λ e. pointwise nat_eq name e) names ≡ None → IsOwn names slot.1
    → same_entry (slot_named names slot) (record { dir = dir; name = name }) ≡ false
other_slot names name dir slot none own = by_test (bytes_eq (get_or names slot.1 []) name) refl
  where
    no_both : (b : Bool) → (b && false) ≡ false
    no_both true = refl
    no_both false = refl

    by_test : (t : Bool) → bytes_eq (get_or names slot.1 []) name ≡ t → (slot.0 == dir) && bytes_eq (get_or names slot.1 []) name ≡ false
    by_test false f = ap (λ (b : Bool). (slot.0 == dir) && b) f ∙ no_both (slot.0 == dir)
    by_test true f =
        let is : get_or names slot.1 [] ≡ name = same_names (get_or names slot.1 []) name f in
        let both : None ≡ Some slot.1 = sym none ∙ ap (λ (x : List ℕ). position (λ e. pointwise nat_eq x e) names) (sym is) ∙ own in
        cc

-- a name without a number has no slot
pub lost_slot : (names : List (List ℕ)) (slots : List (ℕ × ℕ)) (dir : ℕ) (name : List ℕ) → All (λ slot. IsOwn names slot.1) slots
    → position (λ e. pointwise nat_eq name e) names ≡ None → entry_number (map (slot_named names) slots) (record { dir = dir; name = name }) ≡ None
lost_slot names slots dir name own none =
    let entry : SlotName = record { dir = dir; name = name } in
    position_map (slot_named names) (λ slot. same_entry slot entry) slots
    ∙ found_nowhere (λ slot. same_entry (slot_named names slot) entry) slots
    (All-weaker (λ slot. IsOwn names slot.1) (λ slot. same_entry (slot_named names slot) entry ≡ false) (λ slot is. other_slot names name dir slot none is) slots own)

-- what is found at the front is found there in a longer list
pub found_front : {X : Type 0} (p : X → Bool) (xs ys : List X) (i : ℕ) (d : X) → position p xs ≡ Some i → position p (xs ++ ys) ≡ Some i
found_front p xs ys i d found =
    let at : position_or_len p xs ≡ i = grind (arith, common_steps) in
    let there : i < length xs = (position-Some p xs i d found).0 in
    let longer : length (xs ++ ys) ≡ length xs + length ys = length-append xs ys in
    let place : position_or_len p (xs ++ ys) ≡ i =
    prefix_len-append (λ x. not (p x)) xs ys
    ∙ ap (λ (n : ℕ). cond (eqb n (length xs)) (length xs + position_or_len p ys) n) at
    ∙ ap (λ (t : Bool). cond t (length xs + position_or_len p ys) i) (before i (length xs) there) in
    ap (λ (n : ℕ). cond (nat_lt n (length (xs ++ ys))) (Some n) None) place
    ∙ ap (λ (t : Bool). cond t (Some i) None) (below i (length xs) (length ys) (length (xs ++ ys)) there longer)
  where
    before : (i n : ℕ) → i < n → eqb i n ≡ false
    before i n less = grind (arith, nat_tests)

    below : (i n m k : ℕ) → i < n → k ≡ n + m → nat_lt i k ≡ true
    below i n m k less sum = grind (arith, nat_tests)

-- the names with a name behind them that they lack
abbrev pub with_name : List (List ℕ) → List ℕ → List (List ℕ)
with_name names name = if list_any (pointwise nat_eq name) names then names else names ++ name ∷ []

pub with_name_is : (names : List (List ℕ)) (name : List ℕ) → (if is_some (position (λ e. pointwise nat_eq e name) names) then names else names ++ name ∷ []) ≡ with_name names name
with_name_is names name =
    ap (λ (t : Bool). if t then names else names ++ name ∷ []) (ap is_some (turned_name names name) ∙ found_any (pointwise nat_eq name) names)

pub own_there : (names : List (List ℕ)) (k : ℕ) → IsOwn names k → k < length names
own_there names k own = (position-Some (λ e. pointwise nat_eq (get_or names k []) e) names k [] own).0

get_front : (names : List (List ℕ)) (name : List ℕ) (k : ℕ) → k < length names → get_or (names ++ name ∷ []) k [] ≡ get_or names k []
get_front names name k there = get_or_append_left names (name ∷ []) [] k there

grown_own : (names : List (List ℕ)) (name : List ℕ) (t : Bool) (k : ℕ) → IsOwn names k → IsOwn (if t then names else names ++ name ∷ []) k
grown_own names name true k own = own
grown_own names name false k own =
    let same : get_or (names ++ name ∷ []) k [] ≡ get_or names k [] = get_front names name k (own_there names k own) in
    subst (λ (x : List ℕ). position (λ e. pointwise nat_eq x e) (names ++ name ∷ []) ≡ Some k) (sym same)
    (found_front (λ e. pointwise nat_eq (get_or names k []) e) names (name ∷ []) k [] own)

grown_get : (names : List (List ℕ)) (name : List ℕ) (t : Bool) (k : ℕ) → IsOwn names k → get_or (if t then names else names ++ name ∷ []) k [] ≡ get_or names k []
grown_get names name true k own = refl
grown_get names name false k own = get_front names name k (own_there names k own)

-- a further name leaves the slots as they are
pub still_own : (names : List (List ℕ)) (name : List ℕ) (slots : List (ℕ × ℕ)) → All (λ slot. IsOwn names slot.1) slots → All (λ slot. IsOwn (with_name names name) slot.1) slots
still_own names name slots own =
    All-weaker (λ slot. IsOwn names slot.1) (λ slot. IsOwn (with_name names name) slot.1) (λ slot is. grown_own names name (list_any (pointwise nat_eq name) names) slot.1 is) slots own

pub still_named : (names : List (List ℕ)) (name : List ℕ) (slots : List (ℕ × ℕ)) → All (λ slot. IsOwn names slot.1) slots
    → map (slot_named (with_name names name)) slots ≡ map (slot_named names) slots
still_named names name [] own = refl
still_named names name (slot ∷ slots) own =
    let here : slot_named (with_name names name) slot ≡ slot_named names slot =
    ap (λ (x : List ℕ). record { dir = slot.0; name = x }) (grown_get names name (list_any (pointwise nat_eq name) names) slot.1 (All-head (λ s. IsOwn names s.1) slot slots own)) in
    ap₂ (λ (s : SlotName) (rest : List SlotName). s ∷ rest) here (still_named names name slots (All-tail (λ s. IsOwn names s.1) slot slots own))

-- a name that was put there has a number
pub has_number : (names : List (List ℕ)) (name : List ℕ) → position (λ e. pointwise nat_eq name e) (with_name names name) ≡ None → ⊥
has_number names name none = by_test (list_any (pointwise nat_eq name) names) refl (ap is_some none)
  where
    itself : bytes_eq name name ≡ true
    itself = (bytes_eq-Decides name name).1 refl

    or_true : (b : Bool) → (b || true) ≡ true
    or_true true = refl
    or_true false = refl

    by_test : (t : Bool) → list_any (pointwise nat_eq name) names ≡ t → is_some (position (λ e. pointwise nat_eq name e) (if t then names else names ++ name ∷ [])) ≡ false → ⊥
    by_test true told lost = true≢false (sym (found_any (pointwise nat_eq name) names ∙ told) ∙ lost)
    by_test false told lost =
        let last : list_any (pointwise nat_eq name) (name ∷ []) ≡ true = ap (λ (b : Bool). b || false) itself in
        let all : list_any (pointwise nat_eq name) (names ++ name ∷ []) ≡ true =
        list_any-append (pointwise nat_eq name) names (name ∷ []) ∙ ap (λ (b : Bool). list_any (pointwise nat_eq name) names || b) last ∙ or_true (list_any (pointwise nat_eq name) names) in
        true≢false (sym (found_any (pointwise nat_eq name) (names ++ name ∷ []) ∙ all) ∙ lost)

-- the slots with a slot behind them that they lack
abbrev pub with_slot : List (ℕ × ℕ) → ℕ → ℕ → List (ℕ × ℕ)
with_slot slots dir n = if list_any (λ slot. nat_eq dir slot.0 && nat_eq n slot.1) slots then slots else slots ++ (dir, n) ∷ []

pub slots_own : (names : List (List ℕ)) (slots : List (ℕ × ℕ)) (dir : ℕ) (name : List ℕ) (n : ℕ) → All (λ slot. IsOwn names slot.1) slots
    → position (λ e. pointwise nat_eq name e) names ≡ Some n → All (λ slot. IsOwn names slot.1) (with_slot slots dir n)
slots_own names slots dir name n own found = by_test (list_any (λ slot. nat_eq dir slot.0 && nat_eq n slot.1) slots)
  where
    mine : IsOwn names n
    mine = subst (λ (x : List ℕ). position (λ e. pointwise nat_eq x e) names ≡ Some n) (sym (found_name names name n found)) found

    by_test : (t : Bool) → All (λ slot. IsOwn names slot.1) (if t then slots else slots ++ (dir, n) ∷ [])
    by_test true = own
    by_test false = All-push (λ slot. IsOwn names slot.1) slots (dir, n) own mine

-- so the slot is noted
pub noted_slot : (names : List (List ℕ)) (slots : List (ℕ × ℕ)) (dir : ℕ) (name : List ℕ) (n : ℕ) → All (λ slot. IsOwn names slot.1) slots
    → position (λ e. pointwise nat_eq name e) names ≡ Some n
    → map (slot_named names) (with_slot slots dir n)
    ≡ if is_some (entry_number (map (slot_named names) slots) (record { dir = dir; name = name })) then map (slot_named names) slots else map (slot_named names) slots ++ record { dir = dir; name = name } ∷ []
noted_slot names slots dir name n own found =
    let entry : SlotName = record { dir = dir; name = name } in
    let made : slot_named names (dir, n) ≡ entry = ap (λ (x : List ℕ). record { dir = dir; name = x }) (found_name names name n found) in
    let told : list_any (λ slot. nat_eq dir slot.0 && nat_eq n slot.1) slots ≡ is_some (entry_number (map (slot_named names) slots) entry) =
    sym (found_any (λ slot. nat_eq dir slot.0 && nat_eq n slot.1) slots) ∙ ap is_some (found_slot names slots dir name n own found) in
    map_if slots (slot_named names) (dir, n) (list_any (λ slot. nat_eq dir slot.0 && nat_eq n slot.1) slots)
    ∙ ap (λ (t : Bool). if t then map (slot_named names) slots else map (slot_named names) slots ++ slot_named names (dir, n) ∷ []) told
    ∙ ap (λ (s : SlotName). if is_some (entry_number (map (slot_named names) slots) entry) then map (slot_named names) slots else map (slot_named names) slots ++ s ∷ []) made
