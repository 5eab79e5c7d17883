-- General: clauses of one to three literals that say that one of them follows from the others. Other crates may cite
-- these lemmas.
use Rattle.std.proofs.Common.{◌≡◌, inl, inr, List, [], ◌∷◌, Bool, true, false, not, ◌∙◌, ap}
use Rattle.clause_store.specs.declared.Lit.{Lit}
use Rattle.clause_store.specs.Clauses.{negated}
use Rattle.clause_store.specs.Truth.{is_true, MakesTrue}
use Rattle.clause_store.proofs.GeneralLiterals.{is_true-negated}
use Rattle.order_coding.proofs.GeneralLists.{Any-here, Any-later, Any-cases, Any-nil, bit_cases, true_false}

abbrev pub truth : List Bool → Lit → Type 0
truth v l = is_true v l ≡ true

pub negated-true : (v : List Bool) (l : Lit) → is_true v l ≡ false → truth v (negated l)
negated-true v l e = is_true-negated v l ∙ ap not e

pub negated-false : {A : Type 0} (v : List Bool) (l : Lit) → truth v (negated l) → truth v l → A
negated-false v l n t = true_false (is_true v (negated l)) n (is_true-negated v l ∙ ap not t)

pub of-one : (v : List Bool) (x : Lit) → MakesTrue v (x ∷ []) → truth v x
of-one v x h = elim (Any-cases (truth v) x [] h) [ inl t ↦ t | inr none ↦ absurd (Any-nil (truth v) none) ]

-- one literal follows from another
pub of-two : (v : List Bool) (x y : Lit) → MakesTrue v (negated x ∷ y ∷ []) → truth v x → truth v y
of-two v x y h t = elim (Any-cases (truth v) (negated x) (y ∷ []) h) [
  | inl n ↦ negated-false v x n t
  | inr rest ↦ of-one v y rest
]

pub two : (v : List Bool) (x y : Lit) → (truth v x → truth v y) → MakesTrue v (negated x ∷ y ∷ [])
two v x y h = elim (bit_cases (is_true v x)) [
  | inl t ↦ Any-later (truth v) (negated x) (y ∷ []) (Any-here (truth v) y [] (h t))
  | inr f ↦ Any-here (truth v) (negated x) (y ∷ []) (negated-true v x f)
]

pub back-two : (v : List Bool) (x y : Lit) → MakesTrue v (x ∷ negated y ∷ []) → truth v y → truth v x
back-two v x y h t = elim (Any-cases (truth v) x (negated y ∷ []) h) [
  | inl e ↦ e
  | inr rest ↦ negated-false v y (of-one v (negated y) rest) t
]

pub two-back : (v : List Bool) (x y : Lit) → (truth v y → truth v x) → MakesTrue v (x ∷ negated y ∷ [])
two-back v x y h = elim (bit_cases (is_true v y)) [
  | inl t ↦ Any-here (truth v) x (negated y ∷ []) (h t)
  | inr f ↦ Any-later (truth v) x (negated y ∷ []) (Any-here (truth v) (negated y) [] (negated-true v y f))
]

-- a literal follows from two others
pub of-three :
    (v : List Bool) (x y z : Lit) → MakesTrue v (negated x ∷ negated y ∷ z ∷ []) → truth v x → truth v y
    → truth v z
of-three v x y z h s t = elim (Any-cases (truth v) (negated x) (negated y ∷ z ∷ []) h) [
  | inl n ↦ negated-false v x n s
  | inr rest ↦ of-two v y z rest t
]

pub three :
    (v : List Bool) (x y z : Lit) → (truth v x → truth v y → truth v z)
    → MakesTrue v (negated x ∷ negated y ∷ z ∷ [])
three v x y z h = elim (bit_cases (is_true v x)) [
  | inl t ↦ Any-later (truth v) (negated x) (negated y ∷ z ∷ []) (two v y z (h t))
  | inr f ↦ Any-here (truth v) (negated x) (negated y ∷ z ∷ []) (negated-true v x f)
]

-- one of two literals is true where a third is
pub back-three :
    (v : List Bool) (x y z : Lit) → MakesTrue v (x ∷ y ∷ negated z ∷ []) → is_true v x ≡ false
    → is_true v y ≡ false → is_true v z ≡ false
back-three v x y z h f g = elim (Any-cases (truth v) x (y ∷ negated z ∷ []) h) [
  | inl e ↦ true_false (is_true v x) e f
  | inr rest ↦ elim (bit_cases (is_true v z)) [
    | inl t ↦ true_false (is_true v y) (back-two v y z rest t) g
    | inr e ↦ e
  ]
]

pub three-back :
    (v : List Bool) (x y z : Lit) → (is_true v x ≡ false → is_true v y ≡ false → is_true v z ≡ false)
    → MakesTrue v (x ∷ y ∷ negated z ∷ [])
three-back v x y z h = elim (bit_cases (is_true v x)) [
  | inl t ↦ Any-here (truth v) x (y ∷ negated z ∷ []) t
  | inr f ↦ Any-later (truth v) x (y ∷ negated z ∷ []) (elim (bit_cases (is_true v y)) [
    | inl t ↦ Any-here (truth v) y (negated z ∷ []) t
    | inr g ↦ Any-later (truth v) y (negated z ∷ []) (Any-here (truth v) (negated z) [] (negated-true v z (h f g)))
  ])
]

pub two-not : (v : List Bool) (x y : Lit) → (truth v x → truth v y → ⊥) → MakesTrue v (negated x ∷ negated y ∷ [])
two-not v x y h = two v x (negated y) (λ t. elim (bit_cases (is_true v y)) [
  | inl s ↦ absurd (h t s)
  | inr f ↦ negated-true v y f
])
