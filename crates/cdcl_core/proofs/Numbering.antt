-- The clauses that have certain numbers, and the others: what becomes of both where a clause is added, and that each clause
-- is among the ones or the others.
use Rattle.std.proofs.Common.{◌≡◌, ◌≢◌, ℕ, zero, suc, ◌+◌, ◌<◌, ◌⊎◌, inl, inr, true, false, List, [], ◌∷◌, ◌++◌, length, map, get_or, slice_get, nat_eq, Some, refl, ap, ap₂, sym, ◌∙◌, subst, arith, length-append}
use Rattle.std.specs.List.{Contains, list_any}
use Rattle.std.proofs.lemmas.Bool.Decides.{eqb_tells}
use Rattle.std.proofs.lemmas.List.{map-append, get_or_append_left, get_or_push}
use Rattle.std.proofs.lemmas.Option.{get_or_from_slice_get, slice_get-get_or}
use Rattle.std.proofs.lemmas.List.Elements.{Contains-push, Contains-push_cases, Contains-append_left, Contains-append_right, Contains-append_cases}
use Rattle.clause_store.specs.declared.Lit.{Lit}
use Rattle.clause_store.specs.Propagation.{Follows, IsNew, negations, others as others_of}
use Rattle.clause_store.proofs.GeneralLists.{Contains-nil, Contains-head, Contains-head_is, Contains-tail, Contains-cons_cases, Contains-map, Contains-from_map}
use Rattle.clause_store.proofs.LeastSet.{more-implied, more-conflicts, more-follows}
use Rattle.trail_core.proofs.GeneralPlaces.{get-contained, contains-get}
use Rattle.cdcl_core.specs.Numbers.{AreNumbers, at_numbers, at_others}
use Rattle.cdcl_core.specs.Search.{IsLesson}

eq-cases : (m n : ℕ) → ((m ≡ n) × (nat_eq m n ≡ true)) ⊎ ((m ≢ n) × (nat_eq m n ≡ false))
eq-cases m n = elim (eqb_tells m n) [ inl e ↦ inl (e.1, e.0) | inr e ↦ inr (e.1, e.0) ]

number-cases : (numbers : List ℕ) (n : ℕ) → (Contains numbers n × (list_any (λ m. nat_eq m n) numbers ≡ true)) ⊎ ((Contains numbers n → ⊥) × (list_any (λ m. nat_eq m n) numbers ≡ false))
number-cases [] n = inr (Contains-nil n, refl)
number-cases (m ∷ ms) n = elim (eq-cases m n) [
  | inl same ↦ inl (Contains-head_is m ms n same.0, rw same.1 refl)
  | inr apart ↦ elim (number-cases ms n) [
    | inl later ↦ inl (Contains-tail m ms n later.0, rw apart.1 later.1)
    | inr none ↦ inr (λ c. elim (Contains-cons_cases m ms n c) [ inl is ↦ apart.0 is | inr l ↦ none.0 l ], rw apart.1 none.1)
  ]
]

not-in : (numbers : List ℕ) (n : ℕ) → (Contains numbers n → ⊥) → list_any (λ m. nat_eq m n) numbers ≡ false
not-in numbers n h = elim (number-cases numbers n) [ inl c ↦ absurd (h c.0) | inr no' ↦ no'.1 ]

is-in : (numbers : List ℕ) (n : ℕ) → Contains numbers n → list_any (λ m. nat_eq m n) numbers ≡ true
is-in numbers n h = elim (number-cases numbers n) [ inl c ↦ c.1 | inr no' ↦ absurd (no'.0 h) ]

others-kept : (n : ℕ) (numbers : List ℕ) (c : List Lit) (cs : List (List Lit)) → (Contains numbers n → ⊥) → at_others n numbers (c ∷ cs) ≡ c ∷ at_others (suc n) numbers cs
unfolding at_others
others-kept n numbers c cs h = rw (not-in numbers n h) refl

others-left : (n : ℕ) (numbers : List ℕ) (c : List Lit) (cs : List (List Lit)) → Contains numbers n → at_others n numbers (c ∷ cs) ≡ at_others (suc n) numbers cs
unfolding at_others
others-left n numbers c cs h = rw (is-in numbers n h) refl

others-none : (n : ℕ) (numbers : List ℕ) → at_others n numbers [] ≡ []
unfolding at_others
others-none n numbers = refl

-- no number
pub others-all : (n : ℕ) (cs : List (List Lit)) → at_others n [] cs ≡ cs
others-all n [] = others-none n []
others-all n (c ∷ cs) = others-kept n [] c cs (Contains-nil n) ∙ ap (λ xs. c ∷ xs) (others-all (suc n) cs)

pub numbers-none : (cs : List (List Lit)) → at_numbers [] cs ≡ []
unfolding at_numbers
numbers-none cs = refl

-- a clause was added that has none of the numbers
pub others-more : (n : ℕ) (numbers : List ℕ) (cs : List (List Lit)) (c : List Lit) → ((m : ℕ) → Contains numbers m → m < n + length cs) → at_others n numbers (cs ++ c ∷ []) ≡ at_others n numbers cs ++ c ∷ []
others-more n numbers [] c h =
    others-kept n numbers c [] (λ i. omega (arith, h n i)) ∙ ap (λ xs. c ∷ xs) (others-none (suc n) numbers) ∙ ap (λ xs. xs ++ c ∷ []) (sym (others-none n numbers))
others-more n numbers (x ∷ xs) c h =
    let rest = others-more (suc n) numbers xs c (λ m i. omega (arith, h m i)) in
    elim (number-cases numbers n) [
      | inl is ↦ others-left n numbers x (xs ++ c ∷ []) is.0 ∙ rest ∙ ap (λ ys. ys ++ c ∷ []) (sym (others-left n numbers x xs is.0))
      | inr no' ↦ others-kept n numbers x (xs ++ c ∷ []) no'.0 ∙ ap (λ ys. x ∷ ys) rest ∙ ap (λ ys. ys ++ c ∷ []) (sym (others-kept n numbers x xs no'.0))
    ]

-- a clause was added together with its number
pub others-same : (n k : ℕ) (numbers : List ℕ) (cs : List (List Lit)) (c : List Lit) → k ≡ n + length cs → at_others n (numbers ++ k ∷ []) (cs ++ c ∷ []) ≡ at_others n numbers cs
others-same n k numbers [] c e =
    let is : k ≡ n = omega (arith, e) in
    let there = subst (λ j. Contains (numbers ++ k ∷ []) j) is (Contains-push numbers k) in
    others-left n (numbers ++ k ∷ []) c [] there ∙ others-none (suc n) (numbers ++ k ∷ []) ∙ sym (others-none n numbers)
others-same n k numbers (x ∷ xs) c e =
    let rest = others-same (suc n) k numbers xs c (omega (arith, e)) in
    elim (number-cases numbers n) [
      | inl is ↦ others-left n (numbers ++ k ∷ []) x (xs ++ c ∷ []) (Contains-append_left numbers (k ∷ []) n is.0) ∙ rest ∙ sym (others-left n numbers x xs is.0)
      | inr no' ↦
          let out : Contains (numbers ++ k ∷ []) n → ⊥ = λ i. elim (Contains-push_cases numbers k n i) [
            | inl old ↦ no'.0 old
            | inr new ↦ omega (arith, e, new)
          ] in
          others-kept n (numbers ++ k ∷ []) x (xs ++ c ∷ []) out ∙ ap (λ ys. x ∷ ys) rest ∙ sym (others-kept n numbers x xs no'.0)
    ]

-- the clauses of the numbers stay where a clause is added
pub numbers-same : (numbers : List ℕ) (cs : List (List Lit)) (c : List Lit) → AreNumbers cs numbers → at_numbers numbers (cs ++ c ∷ []) ≡ at_numbers numbers cs
unfolding at_numbers
numbers-same [] cs c h = refl
numbers-same (n ∷ ns) cs c h =
    ap₂ (λ (x : List Lit) (xs : List (List Lit)). x ∷ xs) (get_or_append_left cs (c ∷ []) [] n (h n (Contains-head n ns))) (numbers-same ns cs c (λ m i. h m (Contains-tail n ns m i)))

numbers-joined : (numbers : List ℕ) (n : ℕ) (all : List (List Lit)) → at_numbers (numbers ++ n ∷ []) all ≡ at_numbers numbers all ++ get_or all n [] ∷ []
unfolding at_numbers
numbers-joined numbers n all = map-append (λ m. get_or all m []) numbers (n ∷ [])

pub numbers-more : (numbers : List ℕ) (n : ℕ) (cs : List (List Lit)) (c : List Lit) → AreNumbers cs numbers → n ≡ length cs → at_numbers (numbers ++ n ∷ []) (cs ++ c ∷ []) ≡ at_numbers numbers cs ++ c ∷ []
numbers-more numbers n cs c h e =
    numbers-joined numbers n (cs ++ c ∷ [])
    ∙ ap₂ (λ (xs : List (List Lit)) (x : List Lit). xs ++ x ∷ []) (numbers-same numbers cs c h) (get_or_push cs c [] n (sym e))

pub length-numbers : (numbers : List ℕ) (cs : List (List Lit)) → length (at_numbers numbers cs) ≡ length numbers
unfolding at_numbers
length-numbers [] cs = refl
length-numbers (n ∷ ns) cs = ap (λ (k : ℕ). suc k) (length-numbers ns cs)

pub get-numbers : (numbers : List ℕ) (cs : List (List Lit)) (k n : ℕ) (c : List Lit) → slice_get numbers k ≡ Some n → slice_get cs n ≡ Some c → slice_get (at_numbers numbers cs) k ≡ Some c
unfolding at_numbers
get-numbers [] cs k n c at get = cc
get-numbers (m ∷ ms) cs zero n c at get = ap (λ (x : List Lit). Some x) (ap (λ (j : ℕ). get_or cs j []) (Some-same m n at) ∙ get_or_from_slice_get cs n c [] get)
  where
    Some-same : (a b : ℕ) → Some a ≡ Some b → a ≡ b
    Some-same a b e = cc
get-numbers (m ∷ ms) cs (suc k) n c at get = get-numbers ms cs k n c at get

pub more-numbers : (numbers : List ℕ) (cs : List (List Lit)) (c : List Lit) → AreNumbers cs numbers → AreNumbers (cs ++ c ∷ []) numbers
more-numbers numbers cs c h n i = omega (arith, h n i, length-append cs (c ∷ []))

pub numbers-push : (numbers : List ℕ) (n : ℕ) (cs : List (List Lit)) (c : List Lit) → AreNumbers cs numbers → n ≡ length cs → AreNumbers (cs ++ c ∷ []) (numbers ++ n ∷ [])
numbers-push numbers n cs c h e m i = elim (Contains-push_cases numbers n m i) [
  | inl old ↦ omega (arith, h m old, length-append cs (c ∷ []))
  | inr new ↦ omega (arith, e, new, length-append cs (c ∷ []))
]

-- each clause is among those of the numbers or the others
others-in : (n : ℕ) (numbers : List ℕ) (cs : List (List Lit)) (c : List Lit) → Contains (at_others n numbers cs) c → Contains cs c
others-in n numbers [] c h = absurd (Contains-nil c (subst (λ xs. Contains xs c) (others-none n numbers) h))
others-in n numbers (x ∷ xs) c h = elim (number-cases numbers n) [
  | inl is ↦ Contains-tail x xs c (others-in (suc n) numbers xs c (subst (λ ys. Contains ys c) (others-left n numbers x xs is.0) h))
  | inr no' ↦ elim (Contains-cons_cases x (at_others (suc n) numbers xs) c (subst (λ ys. Contains ys c) (others-kept n numbers x xs no'.0) h)) [
    | inl same ↦ Contains-head_is x xs c same
    | inr later ↦ Contains-tail x xs c (others-in (suc n) numbers xs c later)
  ]
]

others-has : (n : ℕ) (numbers : List ℕ) (cs : List (List Lit)) (k : ℕ) (c : List Lit) → slice_get cs k ≡ Some c → (Contains numbers (n + k) → ⊥) → Contains (at_others n numbers cs) c
others-has n numbers [] k c at h = cc
others-has n numbers (x ∷ xs) zero c at h =
    let here : Contains numbers n → ⊥ = λ i. h (subst (λ j. Contains numbers j) (omega arith) i) in
    let same : x ≡ c = cc in
    subst (λ ys. Contains ys c) (sym (others-kept n numbers x xs here)) (Contains-head_is x (at_others (suc n) numbers xs) c same)
others-has n numbers (x ∷ xs) (suc k) c at h =
    let rest = others-has (suc n) numbers xs k c at (λ i. h (subst (λ j. Contains numbers j) (omega arith) i)) in
    elim (number-cases numbers n) [
      | inl is ↦ subst (λ ys. Contains ys c) (sym (others-left n numbers x xs is.0)) rest
      | inr no' ↦ subst (λ ys. Contains ys c) (sym (others-kept n numbers x xs no'.0)) (Contains-tail x (at_others (suc n) numbers xs) c rest)
    ]

numbers-in : (numbers : List ℕ) (cs : List (List Lit)) (c : List Lit) → AreNumbers cs numbers → Contains (at_numbers numbers cs) c → Contains cs c
unfolding at_numbers
numbers-in numbers cs c h i =
    let f = Contains-from_map (λ n. get_or cs n []) numbers c i in
    subst (λ x. Contains cs x) f.2 (contains-get cs f.0 (get_or cs f.0 []) (slice_get-get_or cs f.0 [] (h f.0 f.1)))

numbers-has : (numbers : List ℕ) (cs : List (List Lit)) (k : ℕ) (c : List Lit) → slice_get cs k ≡ Some c → Contains numbers k → Contains (at_numbers numbers cs) c
unfolding at_numbers
numbers-has numbers cs k c at h = subst (λ x. Contains (map (λ n. get_or cs n []) numbers) x) (get_or_from_slice_get cs k c [] at) (Contains-map (λ n. get_or cs n []) numbers k h)

pub all-from-both : (numbers : List ℕ) (cs : List (List Lit)) → AreNumbers cs numbers → (c : List Lit) → Contains (at_others 0 numbers cs ++ at_numbers numbers cs) c → Contains cs c
all-from-both numbers cs h c i = elim (Contains-append_cases (at_others 0 numbers cs) (at_numbers numbers cs) c i) [
  | inl a ↦ others-in 0 numbers cs c a
  | inr b ↦ numbers-in numbers cs c h b
]

pub given-in-all : (numbers : List ℕ) (cs : List (List Lit)) (c : List Lit) → Contains (at_others 0 numbers cs) c → Contains cs c
given-in-all numbers cs c i = others-in 0 numbers cs c i

pub both-from-all : (numbers : List ℕ) (cs : List (List Lit)) (c : List Lit) → Contains cs c → Contains (at_others 0 numbers cs ++ at_numbers numbers cs) c
both-from-all numbers cs c i =
    let at = get-contained cs c i in
    elim (number-cases numbers at.0) [
      | inl is ↦ Contains-append_right (at_others 0 numbers cs) (at_numbers numbers cs) c (numbers-has numbers cs at.0 c at.1 is.0)
      | inr no' ↦ Contains-append_left (at_others 0 numbers cs) (at_numbers numbers cs) c
          (others-has 0 numbers cs at.0 c at.1 (λ j. no'.0 (subst (λ m. Contains numbers m) (omega arith) j)))
    ]

-- so what follows from the ones and the others follows from all, and the other way round
pub follows-both : (numbers : List ℕ) (cs : List (List Lit)) (clause : List Lit) → Follows cs clause → Follows (at_others 0 numbers cs ++ at_numbers numbers cs) clause
follows-both numbers cs clause = more-follows cs (at_others 0 numbers cs ++ at_numbers numbers cs) clause (both-from-all numbers cs)

pub follows-all : (numbers : List ℕ) (cs : List (List Lit)) (clause : List Lit) → AreNumbers cs numbers → Follows (at_others 0 numbers cs ++ at_numbers numbers cs) clause → Follows cs clause
follows-all numbers cs clause h = more-follows (at_others 0 numbers cs ++ at_numbers numbers cs) cs clause (all-from-both numbers cs h)

new-fewer : (all few : List (List Lit)) (clause : List Lit) → ((c : List Lit) → Contains few c → Contains all c) → IsNew all clause → IsNew few clause
new-fewer all few clause sub (l, has, no-lit, no-conflict) = (
  l,
  has,
  λ i. no-lit (more-implied few all (negations (others_of l clause)) (negations (others_of l clause)) sub (λ m h. h) l i),
  λ i. no-conflict (more-conflicts few all (negations (others_of l clause)) (negations (others_of l clause)) sub (λ m h. h) i),
)

pub lesson-both : (numbers : List ℕ) (cs : List (List Lit)) (clause : List Lit) → AreNumbers cs numbers → IsLesson cs clause → IsLesson (at_others 0 numbers cs ++ at_numbers numbers cs) clause
lesson-both numbers cs clause h (some, follows, new) = (
  some,
  follows-both numbers cs clause follows,
  new-fewer cs (at_others 0 numbers cs ++ at_numbers numbers cs) clause (all-from-both numbers cs h) new,
)
