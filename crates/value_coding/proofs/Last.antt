-- The last number of an order that passes a test, and what stands before it.
use Rattle.std.proofs.Common.{◌≡◌, ◌≢◌, ◌⊎◌, inl, inr, ℕ, suc, ◌+◌, ◌<◌, ◌≤◌, Bool, true, false, cond, List, [], ◌∷◌, ◌++◌, take, drop, Option, Some, None, Contains, refl, sym, ◌∙◌, ap, subst, arith, append_assoc}
use Rattle.std.specs.List.{AllPairs}
use Rattle.std.specs.Option.{option_or}
use Rattle.std.proofs.lemmas.Bool.{cases_eq}
use Rattle.std.proofs.lemmas.Bool.Decides.{nat_tests}
use Rattle.std.proofs.lemmas.List.{take-append-drop}
use Rattle.std.proofs.lemmas.List.Elements.{Contains-append_left}
use Rattle.clause_store.proofs.GeneralLists.{Contains-head, Contains-head_is, Contains-tail, Contains-cons_cases, Contains-nil}
use Rattle.fer_events.specs.Orders.{StandsBefore}
use Rattle.order_coding.proofs.GeneralOrders.{times, times-append, places-from_stands}
use Rattle.order_coding.proofs.GeneralLists.{true_false}
use Rattle.value_coding.specs.LastWriter.{last_where}

option-cases : (o : Option ℕ) → (o ≡ None) ⊎ ((w : ℕ) × (o ≡ Some w))
option-cases None = inl refl
option-cases (Some w) = inr (w, refl)

one-of : (later : Option ℕ) (b : Bool) (x w : ℕ) → option_or later (cond b (Some x) None) ≡ Some w → (later ≡ Some w) ⊎ ((later ≡ None) × (x ≡ w) × (b ≡ true))
one-of None true x w e = inr (refl, (cc), refl)
one-of None false x w e = cc
one-of (Some u) b x w e = inl e

none-of-both : (later : Option ℕ) (b : Bool) (x : ℕ) → option_or later (cond b (Some x) None) ≡ None → (later ≡ None) × (b ≡ false)
none-of-both None true x e = cc
none-of-both None false x e = (refl, refl)
none-of-both (Some u) b x e = cc

pub last-none : (p : ℕ → Bool) (xs : List ℕ) → last_where p xs ≡ None → (a : ℕ) → Contains xs a → p a ≡ true → ⊥
last-none p [] e a h t = Contains-nil a h
last-none p (x ∷ xs) e a h t =
    let none = none-of-both (last_where p xs) (p x) x e in
    elim (Contains-cons_cases x xs a h) [
      | inl same ↦ true_false (p a) t (ap p (sym same) ∙ none.1)
      | inr later ↦ last-none p xs none.0 a later t
    ]

pub last-contained : (p : ℕ → Bool) (xs : List ℕ) (w : ℕ) → last_where p xs ≡ Some w → Contains xs w × (p w ≡ true)
last-contained p [] w e = cc
last-contained p (x ∷ xs) w e = elim (one-of (last_where p xs) (p x) x w e) [
  | inl later ↦ let found = last-contained p xs w later in (Contains-tail x xs w found.0, found.1)
  | inr here ↦ (Contains-head_is x xs w here.1, ap p (sym here.1) ∙ here.2)
]

stands-later : (x a b : ℕ) (xs : List ℕ) → StandsBefore xs a b → StandsBefore (x ∷ xs) a b
stands-later x a b xs (front, back, is, ca, cb) = (x ∷ front, back, ap (λ (l : List ℕ). x ∷ l) is, Contains-tail x front a ca, cb)

stands-first : (x b : ℕ) (xs : List ℕ) → Contains xs b → StandsBefore (x ∷ xs) x b
stands-first x b xs h = (x ∷ [], xs, refl, Contains-head x [], h)

-- every other number that passes stands before the last
pub last-behind :
    (p : ℕ → Bool) (xs : List ℕ) (w : ℕ) → last_where p xs ≡ Some w → (a : ℕ) → Contains xs a → p a ≡ true → a ≢ w
    → StandsBefore xs a w
last-behind p [] w e a h t ne = cc
last-behind p (x ∷ xs) w e a h t ne = elim (one-of (last_where p xs) (p x) x w e) [
  | inl later ↦ elim (Contains-cons_cases x xs a h) [
    | inl same ↦ subst (λ (k : ℕ). StandsBefore (x ∷ xs) k w) same (stands-first x w xs (last-contained p xs w later).0)
    | inr in_rest ↦ stands-later x a w xs (last-behind p xs w later a in_rest t ne)
  ]
  | inr here ↦ elim (Contains-cons_cases x xs a h) [
    | inl same ↦ absurd (ne (sym same ∙ here.1))
    | inr in_rest ↦ absurd (last-none p xs here.0 a in_rest t)
  ]
]

pub none-last : (p : ℕ → Bool) (xs : List ℕ) → ((a : ℕ) → Contains xs a → p a ≡ true → ⊥) → last_where p xs ≡ None
none-last p xs h = elim (option-cases (last_where p xs)) [
  | inl e ↦ e
  | inr found ↦ let is = last-contained p xs found.0 found.1 in absurd (h found.0 is.0 is.1)
]

-- in an order without repetition, the one that all others stand before is the last
pub last-is :
    (p : ℕ → Bool) (xs : List ℕ) (w : ℕ) → ((a : ℕ) → times a xs ≤ 1) → Contains xs w → p w ≡ true
    → ((a : ℕ) → Contains xs a → p a ≡ true → a ≢ w → StandsBefore xs a w) → last_where p xs ≡ Some w
last-is p xs w once h t before = elim (option-cases (last_where p xs)) [
  | inl none ↦ absurd (last-none p xs none w h t)
  | inr (u, found) ↦
      let is = last-contained p xs u found in
      elim (cases_eq w u) [
        | inl same ↦ found ∙ ap (λ (k : ℕ). Some k) (sym same)
        | inr ne ↦
            let one = places-from_stands w u xs (once u) (last-behind p xs u found w h t ne) in
            let two = places-from_stands u w xs (once w) (before u is.0 is.1 (λ e. ne (sym e))) in
            absurd (omega arith)
      ]
]

-- the first numbers of an order have none twice either
pub once-taken : (xs : List ℕ) (k a : ℕ) → times a xs ≤ 1 → times a (take k xs) ≤ 1
once-taken xs k a h = omega (arith, times-append a (take k xs) (drop k xs), ap (times a) (take-append-drop k xs))

-- what stands before among the first numbers stands before in the whole
pub stands-taken : (xs : List ℕ) (k a b : ℕ) → StandsBefore (take k xs) a b → StandsBefore xs a b
stands-taken xs k a b (front, back, is, ca, cb) =
    let e : xs ≡ front ++ (back ++ drop k xs) = sym (take-append-drop k xs) ∙ ap (λ (l : List ℕ). l ++ drop k xs) is ∙ simp append_assoc in
    (front, back ++ drop k xs, e, ca, Contains-append_left back (drop k xs) b cb)

zero-or-more : (n : ℕ) → (n ≡ 0) ⊎ (0 < n)
zero-or-more n = grind arith

times-some : (a : ℕ) (xs : List ℕ) → 0 < times a xs → Contains xs a
times-some a [] h = absurd (omega arith)
times-some a (x ∷ xs) h = elim (cases_eq x a) [
  | inl e ↦ Contains-head_is x xs a e
  | inr ne ↦
      let same : times a (x ∷ xs) ≡ times a xs = grind (arith, nat_tests) in
      Contains-tail x xs a (times-some a xs (omega arith))
]

-- a list of numbers that all differ has none twice
pub once-different : (xs : List ℕ) → AllPairs (λ a b. a ≢ b) xs → (a : ℕ) → times a xs ≤ 1
once-different [] h a = omega arith
once-different (x ∷ xs) h a =
    let rest = once-different xs (λ i j d l k. h (suc i) (suc j) d (omega arith) (omega arith)) a in
    elim (cases_eq x a) [
      | inl e ↦
          let none : times a xs ≡ 0 = elim (zero-or-more (times a xs)) [
            | inl z ↦ z
            | inr some ↦
                let (k, l, at) = times-some a xs some in
                absurd (h 0 (suc k) a (omega arith) (omega arith) (e ∙ sym at))
          ] in
          let count : times a (x ∷ xs) ≡ 1 + times a xs = grind (arith, nat_tests) in
          omega arith
      | inr ne ↦ let same : times a (x ∷ xs) ≡ times a xs = grind (arith, nat_tests) in omega arith
    ]
