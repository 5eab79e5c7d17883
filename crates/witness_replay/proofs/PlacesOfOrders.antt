-- What the places of events tell of an order, and which events come before the cut.
use Rattle.std.proofs.Common.{◌≡◌, ℕ, ◌+◌, ◌-◌, ◌<◌, ◌≤◌, inl, inr, true, eqb, List, length, take, drop, map, get_or, set, Contains, IsPermutation, refl, sym, ◌∙◌, ap, subst, arith}
use Rattle.std.specs.Prelude.{unwrap_or}
use Rattle.std.specs.List.{list_any, position, position_or_len}
use Rattle.std.proofs.lemmas.Bool.{cases_eq, eqb-true, eq-eqb}
use Rattle.std.proofs.lemmas.Bool.Decides.{nat_tests}
use Rattle.std.proofs.lemmas.List.{take-append-drop, take_all, get_or_default, get_or-set_same, get_or-set_other}
use Rattle.std.proofs.lemmas.List.Folds.{Any-from_list_any, list_any-from_Any}
use Rattle.std.proofs.lemmas.List.Elements.{Contains-append_left, All-contains}
use Rattle.std.proofs.lemmas.List.Recursion.{is_position_or_len}
use Rattle.std.proofs.lemmas.List.Sorted.{IsPermutation-sym, Contains-permutation}
use Rattle.clause_store.proofs.GeneralLists.{Contains-from_filter, Contains-from_map}
use Rattle.fer_events.specs.Orders.{numbers}
use Rattle.fer_events.specs.Pairs.{PairList, square, has_pair, IsListed}
use Rattle.order_coding.specs.Variables.{IsNumber}
use Rattle.order_coding.proofs.GeneralLists.{All-flat_map, All-from_contains}
use Rattle.order_coding.proofs.GeneralOrders.{place, place-take, take-place, stands-from_places, places-from_stands, ordered-once, ordered-contains, numbers-within}
use Rattle.witness_replay.specs.Places.{ArePlaces, place_in}

-- places that are those of the order, for each number, tell what they have to
pub places_tell :
    (n : ℕ) (order places : List ℕ) → IsPermutation (numbers n) order
    → ((a : ℕ) → IsNumber n a → place_in places a ≡ place a order) → ArePlaces n order places
places_tell n order places permutes is = record {
  before = λ a b ia ib. (
    (λ less. stands-from_places a b order (ordered-contains n order a permutes ia) (ordered-contains n order b permutes ib) (omega (arith, less, is a ia, is b ib))),
    (λ stands. omega (arith, is a ia, is b ib, places-from_stands a b order (ordered-once n order b permutes) stands)),
  );
  inside = λ k a ia. (
    (λ less. take-place k a order (ordered-contains n order a permutes ia) (omega (arith, less, is a ia))),
    (λ inside. omega (arith, is a ia, place-take k a order inside)),
  );
}

-- a test that looks for a number tells whether it is there
pub found_is_contained : (xs : List ℕ) (a : ℕ) → list_any (λ x. eqb x a) xs ≡ true → Contains xs a
found_is_contained xs a h =
    let found = Any-from_list_any (λ x. eqb x a) xs h in
    let F : ℕ → Type 0 = λ x. Contains xs x in
    subst F (eqb-true found.1 a found.4) (found.0, found.2, found.3)

pub contained_is_found : (xs : List ℕ) (a : ℕ) → Contains xs a → list_any (λ x. eqb x a) xs ≡ true
contained_is_found xs a (k, l, e) = list_any-from_Any (λ x. eqb x a) xs (k, a, l, e, eq-eqb a a refl)

-- the first index that a number has is its place
pub first_index : (a : ℕ) (xs : List ℕ) → Contains xs a → unwrap_or (position (λ x. eqb x a) xs) 0 ≡ place a xs
first_index a xs h =
    let e : place a xs ≡ position_or_len (λ x. eqb x a) xs = is_position_or_len (place a) (λ x. eqb x a) refl (λ x l. refl) xs in
    let F : List ℕ → Type 0 = λ l. Contains l a in
    let within : place a xs < length xs = place-take (length xs) a xs (subst F (sym (take_all (length xs) xs (omega arith))) h) in
    grind (arith, nat_tests)

-- one more place that is right
pub one_more_place :
    (order places : List ℕ) (k r : ℕ) → k < length places → r ≡ place (k + 1) order
    → ((a : ℕ) → 1 ≤ a → a ≤ k → place_in places a ≡ place a order)
    → (a : ℕ) → 1 ≤ a → a ≤ k + 1 → place_in (set places k r) a ≡ place a order
one_more_place order places k r l is before a above below = elim (cases_eq a (k + 1)) [
  | inl same ↦
      let at : a - 1 ≡ k = omega arith in
      ap (λ i. get_or (set places k r) i 0) at ∙ get_or-set_same places k r 0 l ∙ is ∙ ap (λ i. place i order) (sym same)
  | inr other ↦ get_or-set_other places k (a - 1) r 0 (λ e. other (omega arith)) ∙ before a above (omega (arith, other))
]

-- what is among the first numbers of an order is a number of the events
pub before_within :
    (n cut k : ℕ) (order : List ℕ) → IsPermutation (numbers n) order → k < length (take cut order)
    → IsNumber n (get_or (take cut order) k 0)
before_within n cut k order permutes l =
    let x = get_or (take cut order) k 0 in
    let front : Contains (take cut order) x = (k, l, get_or_default (take cut order) k x 0 l) in
    let F : List ℕ → Type 0 = λ xs. Contains xs x in
    let whole = subst F (take-append-drop cut order) (Contains-append_left (take cut order) (drop cut order) x front) in
    numbers-within n x (Contains-permutation order (numbers n) x (IsPermutation-sym (numbers n) order permutes) whole)

-- a kept pair is of numbers of events
pub kept_within : (p : PairList) (a b : ℕ) → IsListed p → Contains p.pairs (a, b) → IsNumber p.n a × IsNumber p.n b
kept_within p a b listed h =
    let n = p.n in
    let P : ℕ × ℕ → Type 0 = λ q. IsNumber n q.0 × IsNumber n q.1 in
    let F : List (ℕ × ℕ) → Type 0 = λ xs. Contains xs (a, b) in
    let of_square = (Contains-from_filter (λ q. has_pair p.pairs q.0 q.1) (square n) (a, b) (subst F listed h)).0 in
    All-contains P (square n) (a, b)
    (All-flat_map P (λ x. map (λ y. (x, y)) (numbers n)) (numbers n)
    (λ x hx. All-from_contains P (map (λ y. (x, y)) (numbers n))
    (λ q hq. let found = Contains-from_map (λ y. (x, y)) (numbers n) q hq in
    subst P found.2 (numbers-within n x hx, numbers-within n found.0 found.1))))
    of_square
