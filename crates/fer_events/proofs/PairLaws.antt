-- Laws of lists of pairs, and of their matrix of bits.
use Rattle.std.proofs.Common.{◌≡◌, ℕ, zero, suc, ◌+◌, ◌-◌, ◌*◌, ◌%◌, ◌^◌, ◌<◌, ◌≤◌, ◌≢◌, inl, inr, Bool, true, false, ◌&&◌, ◌||◌, eqb, leb, ltb, List, [], ◌∷◌, map, length, set, get_or, Contains, refl, sym, ◌∙◌, ap, subst, bit_or, filter, arith}
use Rattle.std.specs.List.{flat_map, list_all, range_with_len}
use Rattle.std.specs.Int.{w128}
use mir.Val.{bits}
use Rattle.std.proofs.lemmas.Bool.{cases_eq, cases_Bool, and_parts, and_from, eqb-true, eq-eqb, ne_eqb}
use Rattle.std.proofs.lemmas.Bool.Decides.{nat_tests}
use Rattle.std.proofs.lemmas.List.{get_or-set_other, get_or-set_same}
use Rattle.std.proofs.lemmas.List.Elements.{filter_agree}
use Rattle.std.proofs.lemmas.List.Folds.{list_any-append, list_any-from_Any, Any-from_list_any}
use Rattle.std.proofs.lemmas.Map.Views.{any-filter_same}
use Rattle.std.proofs.lemmas.Nat.Bits.{bit_at_set_same, bit_at_set_other, bit_at-zero}
use Rattle.fer_events.specs.Pairs.{square, has_pair}
use Rattle.fer_events.specs.Matrix.{bit_of, pairs_of}

same_pair : (x : ℕ × ℕ) (a b : ℕ) → (eqb x.0 a && eqb x.1 b) ≡ true → x ≡ (a, b)
same_pair x a b h =
    let parts = and_parts _ _ h in
    ap (λ (u : ℕ). (u, x.1)) (eqb-true _ _ parts.0) ∙ ap (λ (v : ℕ). (a, v)) (eqb-true _ _ parts.1)

-- a filtered list has a pair where the list has it and it passes
pub has_pair-filter : (f : ℕ × ℕ → Bool) (a b : ℕ) (xs : List (ℕ × ℕ)) → has_pair (filter f xs) a b ≡ (f (a, b) && has_pair xs a b)
has_pair-filter f a b xs = any-filter_same (λ p. eqb p.0 a && eqb p.1 b) f (f (a, b)) (λ k h. ap f (same_pair k a b h)) xs

-- a list has each of its pairs
pub has_self : (xs : List (ℕ × ℕ)) (q : ℕ × ℕ) → Contains xs q → has_pair xs q.0 q.1 ≡ true
has_self xs q (k, l, e) =
    list_any-from_Any (λ (p : ℕ × ℕ). eqb p.0 q.0 && eqb p.1 q.1) xs
    (k, q, l, e, and_from _ _ (eq-eqb q.0 q.0 refl) (eq-eqb q.1 q.1 refl))

-- and has no others
pub has_only : (xs : List (ℕ × ℕ)) (a b : ℕ) → has_pair xs a b ≡ true → Contains xs (a, b)
has_only xs a b h =
    let found = Any-from_list_any (λ (p : ℕ × ℕ). eqb p.0 a && eqb p.1 b) xs h in
    subst (λ (q : ℕ × ℕ). Contains xs q) (same_pair found.1 a b found.4) (found.0, found.2, found.3)

keeps_own : (f g : ℕ × ℕ → Bool) (xs : List (ℕ × ℕ)) → ((q : ℕ × ℕ) → Contains xs q → g q ≡ true) → filter f xs ≡ filter (λ q. f q && g q) xs
keeps_own f g [] h = refl
keeps_own f g (x ∷ xs) h =
    let here : g x ≡ true = h x (zero, omega arith, refl) in
    let rest : filter f xs ≡ filter (λ q. f q && g q) xs = keeps_own f g xs (λ q (k, l, e). h q (suc k, omega arith, e)) in
    elim (cases_Bool (f x)) [ inl e ↦ rw (e, here) (ap (λ (l : List (ℕ × ℕ)). x ∷ l) rest) | inr e ↦ rw e rest ]

-- what a filter keeps of a list are those of the list that it has
pub filter_listed : (f : ℕ × ℕ → Bool) (xs : List (ℕ × ℕ)) → filter f xs ≡ filter (λ q. has_pair (filter f xs) q.0 q.1) xs
filter_listed f xs =
    keeps_own f (λ q. has_pair xs q.0 q.1) xs (has_self xs)
    ∙ filter_agree _ _ (λ q. sym (has_pair-filter f q.0 q.1 xs)) xs

within : ℕ → ℕ → ℕ → Bool
within low n a = leb low a && ltb a (low + n)

row_has : (x low n a b : ℕ) → has_pair (map (λ y. (x, y)) (range_with_len low n)) a b ≡ (eqb x a && (leb low b && ltb b (low + n)))
row_has x low zero a b = grind (arith, nat_tests)
row_has x low (suc n) a b = grind (arith, nat_tests, row_has x (low + 1) n a b)

grid_has : (low n first count a b : ℕ) → has_pair (flat_map (λ x. map (λ y. (x, y)) (range_with_len low n)) (range_with_len first count)) a b
    ≡ ((leb first a && ltb a (first + count)) && (leb low b && ltb b (low + n)))
grid_has low n first zero a b = grind (arith, nat_tests)
grid_has low n first (suc count) a b =
    list_any-append _ (map (λ y. (first, y)) (range_with_len low n)) _
    ∙ ap (λ (r : Bool). r || has_pair (flat_map (λ x. map (λ y. (x, y)) (range_with_len low n)) (range_with_len (first + 1) count)) a b) (row_has first low n a b)
    ∙ ap (λ (r : Bool). (eqb first a && (leb low b && ltb b (low + n))) || r) (grid_has low n (first + 1) count a b)
    ∙ grind (arith, nat_tests)

-- the square has a pair where both numbers are from 1 to n
pub has_pair-square : (n a b : ℕ) → has_pair (square n) a b ≡ ((leb 1 a && leb a n) && (leb 1 b && leb b n))
has_pair-square n a b = grid_has 1 n 1 n a b ∙ grind (arith, nat_tests)

pub in_square : (n a b : ℕ) → 1 ≤ a → a ≤ n → 1 ≤ b → b ≤ n → has_pair (square n) a b ≡ true
in_square n a b la an lb bn = has_pair-square n a b ∙ grind (arith, nat_tests)

-- the matrix has a pair of the n numbers where its bit is set
pub pairs_of-has : (n : ℕ) (rows : List ℕ) (a b : ℕ) → 1 ≤ a → a ≤ n → 1 ≤ b → b ≤ n → bit_of rows a b ≡ has_pair (pairs_of n rows) a b
pairs_of-has n rows a b la an lb bn =
    let there = in_square n a b la an lb bn in
    let all = has_pair-filter (λ p. bit_of rows p.0 p.1) a b (square n) in
    grind (arith, there, all)

set_bit : (rows : List ℕ) (a b x y : ℕ) → 1 ≤ a → 1 ≤ b → 1 ≤ x → 1 ≤ y → a - 1 < length rows → b - 1 < bits w128
    → bit_of (set rows (a - 1) (bit_or (get_or rows (a - 1) 0) (1 * 2 ^ (b - 1) % 2 ^ bits w128))) x y ≡ ((eqb a x && eqb b y) || bit_of rows x y)
set_bit rows a b x y la lb lx ly there narrow = elim (cases_eq a x) [
  | inl same ↦ elim (cases_eq b y) [
    | inl also ↦ rw (sym same, sym also, eq-eqb a a refl, eq-eqb b b refl, get_or-set_same rows (a - 1) _ 0 there, bit_at_set_same w128 (get_or rows (a - 1) 0) (b - 1) narrow) refl
    | inr apart ↦
        let ne : y - 1 ≢ b - 1 = omega arith in
        rw (sym same, eq-eqb a a refl, ne_eqb b y apart, get_or-set_same rows (a - 1) _ 0 there, bit_at_set_other w128 (get_or rows (a - 1) 0) (b - 1) narrow (y - 1) ne) refl
  ]
  | inr apart ↦
      let ne : x - 1 ≢ a - 1 = omega arith in
      rw (ne_eqb a x apart, get_or-set_other rows (a - 1) (x - 1) _ 0 ne) refl
]

-- a bit that is set puts its pair among the pairs
pub pairs_of-set : (n : ℕ) (rows : List ℕ) (a b x y : ℕ) → 1 ≤ a → a ≤ n → 1 ≤ b → b ≤ n → n ≤ 128 → length rows ≡ 128
    → has_pair (pairs_of n (set rows (a - 1) (bit_or (get_or rows (a - 1) 0) (1 * 2 ^ (b - 1) % 2 ^ bits w128)))) x y
    ≡ ((eqb a x && eqb b y) || has_pair (pairs_of n rows) x y)
pairs_of-set n rows a b x y la an lb bn few long =
    let rows' = set rows (a - 1) (bit_or (get_or rows (a - 1) 0) (1 * 2 ^ (b - 1) % 2 ^ bits w128)) in
    let now = has_pair-filter (λ p. bit_of rows' p.0 p.1) x y (square n) in
    let was = has_pair-filter (λ p. bit_of rows p.0 p.1) x y (square n) in
    let inside = has_pair-square n x y in
    elim (cases_Bool (has_pair (square n) x y)) [
      | inl e ↦
          let range : ((leb 1 x && leb x n) && (leb 1 y && leb y n)) ≡ true = sym inside ∙ e in
          let lx : 1 ≤ x = grind (arith, nat_tests) in
          let ly : 1 ≤ y = grind (arith, nat_tests) in
          let bit = set_bit rows a b x y la lb lx ly (omega arith) (omega arith) in
          grind (arith, now, was, e, bit)
      | inr e ↦
          let range : ((leb 1 x && leb x n) && (leb 1 y && leb y n)) ≡ false = sym inside ∙ e in
          let none : (eqb a x && eqb b y) ≡ false = grind (arith, nat_tests) in
          grind (arith, now, was, e, none)
    ]

-- a list of zeros has a zero at each place, and past its end
zeros : (xs : List ℕ) → list_all (λ x. eqb x 0) xs ≡ true → (k : ℕ) → get_or xs k 0 ≡ 0
zeros [] h k = refl
zeros (x ∷ xs) h zero = eqb-true x 0 (and_parts _ _ h).0
zeros (x ∷ xs) h (suc k) = zeros xs (and_parts _ _ h).1 k

filter_none : (f : ℕ × ℕ → Bool) → ((q : ℕ × ℕ) → f q ≡ false) → (xs : List (ℕ × ℕ)) → filter f xs ≡ []
filter_none f h [] = refl
filter_none f h (x ∷ xs) = rw (h x) (filter_none f h xs)

-- a matrix of zeros has no pairs
pub pairs_of-zeros : (n : ℕ) (rows : List ℕ) → list_all (λ x. eqb x 0) rows ≡ true → pairs_of n rows ≡ []
pairs_of-zeros n rows h =
    filter_none (λ p. bit_of rows p.0 p.1) (λ q. rw (zeros rows h (q.0 - 1), bit_at-zero (q.1 - 1)) refl) (square n)
