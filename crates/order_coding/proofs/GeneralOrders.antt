-- General: the place of a number in a list that has it once, and what stands before what.
use Rattle.std.proofs.Common.{◌≡◌, ◌≢◌, ℕ, zero, suc, ◌+◌, ◌<◌, ◌≤◌, inl, inr, List, [], ◌∷◌, ◌++◌, length, take, drop, get_or, eqb, cond, Contains, IsPermutation, refl, sym, ◌∙◌, ap, arith}
use Rattle.std.specs.List.{range_with_len}
use Rattle.std.proofs.lemmas.Bool.{cases_eq}
use Rattle.std.proofs.lemmas.Bool.Decides.{nat_tests}
use Rattle.std.proofs.lemmas.List.{take-append-drop, length-take-le, length-drop, get_or-take, get_or-drop}
use Rattle.std.proofs.lemmas.List.Recursion.{is_count_by}
use Rattle.std.proofs.lemmas.List.Sorted.{sum_by-IsPermutation, Contains-permutation}
use Rattle.clause_store.proofs.GeneralLists.{Contains-head_is, Contains-tail, Contains-cons_cases, Contains-nil}
use Rattle.fer_events.specs.Orders.{numbers, StandsBefore}
use Rattle.order_coding.specs.Variables.{IsNumber}
use Rattle.order_coding.proofs.GeneralLists.{range_contains, range_within}

-- how often a number stands in a list
abbrev pub times : ℕ → List ℕ → ℕ
times a [] = 0
times a (x ∷ xs) = cond (eqb x a) (1 + times a xs) (times a xs)

times-permutation : (a : ℕ) (xs ys : List ℕ) → IsPermutation xs ys → times a ys ≡ times a xs
times-permutation a xs ys h =
    is_count_by (times a) (λ x. eqb x a) refl (λ x l. refl) ys ∙ sum_by-IsPermutation _ xs ys h
    ∙ sym (is_count_by (times a) (λ x. eqb x a) refl (λ x l. refl) xs)

pub times-append : (a : ℕ) (xs ys : List ℕ) → times a (xs ++ ys) ≡ times a xs + times a ys
times-append a [] ys = omega arith
times-append a (x ∷ xs) ys = grind (arith, nat_tests, times-append a xs ys)

times-contained : (a : ℕ) (xs : List ℕ) → Contains xs a → 0 < times a xs
times-contained a [] h = absurd (Contains-nil a h)
times-contained a (x ∷ xs) h = elim (Contains-cons_cases x xs a h) [
  | inl e ↦ grind (arith, nat_tests)
  | inr c ↦ let more = times-contained a xs c in grind (arith, nat_tests)
]

times-below : (a low n : ℕ) → a < low → times a (range_with_len low n) ≡ 0
times-below a low zero h = refl
times-below a low (suc n) h = grind (arith, nat_tests, times-below a (low + 1) n (omega arith))

times-once : (a low n : ℕ) → times a (range_with_len low n) ≤ 1
times-once a low zero = omega arith
times-once a low (suc n) = grind (arith, nat_tests, times-once a (low + 1) n, times-below a (low + 1) n)

-- an order has each number once
pub ordered-once : (n : ℕ) (order : List ℕ) (a : ℕ) → IsPermutation (numbers n) order → times a order ≤ 1
ordered-once n order a h = rw (times-permutation a (numbers n) order h) (times-once a 1 n)

pub numbers-contain : (n a : ℕ) → IsNumber n a → Contains (numbers n) a
numbers-contain n a is = range_contains 1 n a is.0 (omega (arith, is.1))

pub numbers-within : (n a : ℕ) → Contains (numbers n) a → IsNumber n a
numbers-within n a h = let in_range = range_within 1 n a h in (in_range.0, omega (arith, in_range.1))

pub ordered-contains :
    (n : ℕ) (order : List ℕ) (a : ℕ) → IsPermutation (numbers n) order → IsNumber n a → Contains order a
ordered-contains n order a h is = Contains-permutation (numbers n) order a h (numbers-contain n a is)

-- the first place of a number, or the length
abbrev pub place : ℕ → List ℕ → ℕ
place a [] = 0
place a (x ∷ xs) = cond (eqb x a) 0 (1 + place a xs)

pub place-head : (a x : ℕ) (xs : List ℕ) → x ≡ a → place a (x ∷ xs) ≡ 0
place-head a x xs e = grind (arith, nat_tests)

pub place-tail : (a x : ℕ) (xs : List ℕ) → x ≢ a → place a (x ∷ xs) ≡ 1 + place a xs
place-tail a x xs ne = grind (arith, nat_tests)

pub place-read : (a : ℕ) (xs : List ℕ) (d : ℕ) → Contains xs a → get_or xs (place a xs) d ≡ a
place-read a [] d h = absurd (Contains-nil a h)
place-read a (x ∷ xs) d h = elim (cases_eq x a) [
  | inl e ↦ rw (place-head a x xs e) e
  | inr ne ↦ elim (Contains-cons_cases x xs a h) [
    | inl e ↦ absurd (ne e)
    | inr later ↦
        let next : 1 + place a xs ≡ suc (place a xs) = omega arith in
        rw (place-tail a x xs ne, next) (place-read a xs d later)
  ]
]

-- two numbers of a list have two places
pub place-same : (a b : ℕ) (xs : List ℕ) → Contains xs a → Contains xs b → place a xs ≡ place b xs → a ≡ b
place-same a b xs ca cb e = sym (place-read a xs 0 ca) ∙ ap (λ k. get_or xs k 0) e ∙ place-read b xs 0 cb

-- what stands among the first k numbers
pub take-place : (k a : ℕ) (xs : List ℕ) → Contains xs a → place a xs < k → Contains (take k xs) a
take-place zero a xs h l = absurd (omega arith)
take-place (suc k) a [] h l = absurd (Contains-nil a h)
take-place (suc k) a (x ∷ xs) h l = elim (cases_eq x a) [
  | inl e ↦ Contains-head_is x (take k xs) a e
  | inr ne ↦ elim (Contains-cons_cases x xs a h) [
    | inl e ↦ absurd (ne e)
    | inr later ↦ Contains-tail x (take k xs) a (take-place k a xs later (omega (arith, place-tail a x xs ne)))
  ]
]

pub place-take : (k a : ℕ) (xs : List ℕ) → Contains (take k xs) a → place a xs < k
place-take zero a xs h = absurd (Contains-nil a h)
place-take (suc k) a [] h = absurd (Contains-nil a h)
place-take (suc k) a (x ∷ xs) h = elim (cases_eq x a) [
  | inl e ↦ omega (arith, place-head a x xs e)
  | inr ne ↦ elim (Contains-cons_cases x (take k xs) a h) [
    | inl e ↦ absurd (ne e)
    | inr later ↦ omega (arith, place-tail a x xs ne, place-take k a xs later)
  ]
]

drop-place : (k a : ℕ) (xs : List ℕ) → Contains xs a → k ≤ place a xs → Contains (drop k xs) a
drop-place zero a xs h l = h
drop-place (suc k) a [] h l = absurd (Contains-nil a h)
drop-place (suc k) a (x ∷ xs) h l = elim (cases_eq x a) [
  | inl e ↦ absurd (omega (arith, place-head a x xs e))
  | inr ne ↦ elim (Contains-cons_cases x xs a h) [
    | inl e ↦ absurd (ne e)
    | inr later ↦ drop-place k a xs later (omega (arith, place-tail a x xs ne))
  ]
]

pub stands-from_places :
    (a b : ℕ) (xs : List ℕ) → Contains xs a → Contains xs b → place a xs < place b xs → StandsBefore xs a b
stands-from_places a b xs ca cb l = (
  take (place b xs) xs,
  drop (place b xs) xs,
  sym (take-append-drop (place b xs) xs),
  take-place (place b xs) a xs ca l,
  drop-place (place b xs) b xs cb (omega arith),
)

place-front : (a : ℕ) (front back : List ℕ) → Contains front a → place a (front ++ back) < length front
place-front a [] back h = absurd (Contains-nil a h)
place-front a (x ∷ xs) back h = elim (cases_eq x a) [
  | inl e ↦ omega (arith, place-head a x (xs ++ back) e)
  | inr ne ↦ elim (Contains-cons_cases x xs a h) [
    | inl e ↦ absurd (ne e)
    | inr later ↦ omega (arith, place-tail a x (xs ++ back) ne, place-front a xs back later)
  ]
]

place-back :
    (b : ℕ) (front back : List ℕ) → times b (front ++ back) ≤ 1 → Contains back b
    → length front ≤ place b (front ++ back)
place-back b [] back once h = omega arith
place-back b (x ∷ xs) back once h = elim (cases_eq x b) [
  | inl e ↦
      let here : times b ((x ∷ xs) ++ back) ≡ 1 + (times b xs + times b back) =
      (let split = times-append b xs back in grind (arith, nat_tests)) in
      absurd (omega (arith, times-contained b back h))
  | inr ne ↦
      let rest : times b ((x ∷ xs) ++ back) ≡ times b (xs ++ back) = grind (arith, nat_tests) in
      omega (arith, place-tail b x (xs ++ back) ne, place-back b xs back (omega arith) h)
]

pub places-from_stands :
    (a b : ℕ) (xs : List ℕ) → times b xs ≤ 1 → StandsBefore xs a b → place a xs < place b xs
places-from_stands a b xs once (front, back, is, ca, cb) =
    let front_place : place a xs < length front = rw is (place-front a front back ca) in
    let back_place : length front ≤ place b xs =
    rw is (place-back b front back (let e = ap (times b) is in omega arith) cb) in
    omega arith

-- of two places the number at the first stands before that at the second
pub stands-from_reads :
    (a b i j : ℕ) (xs : List ℕ) → i < j → j < length xs → get_or xs i a ≡ a → get_or xs j b ≡ b
    → StandsBefore xs a b
stands-from_reads a b i j xs l h ea eb =
    let short : length (take j xs) ≡ j = length-take-le j xs (omega arith) in
    let rest : 0 < length (drop j xs) = omega (arith, length-drop j xs) in
    let at : j + 0 ≡ j = omega arith in (
      take j xs,
      drop j xs,
      sym (take-append-drop j xs),
      (i, omega arith, get_or-take j xs i a l ∙ ea),
      (0, rest, get_or-drop j xs 0 b ∙ ap (λ k. get_or xs k b) at ∙ eb),
    )
