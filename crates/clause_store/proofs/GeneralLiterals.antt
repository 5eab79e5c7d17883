-- General: literals, their negations, and lists of them. These lemmas are on the definitions alone, and other crates
-- may cite them.
use Rattle.std.proofs.Common.{◌≡◌, ◌≢◌, ℕ, ◌-◌, ◌⊎◌, inl, inr, List, [], ◌∷◌, Bool, true, false, not, if◌then◌else◌, slice_index_or, Contains, refl, sym, ◌∙◌, ap, ap₂, arith}
use Rattle.std.proofs.lemmas.Bool.{cases_eq}
use Rattle.std.proofs.lemmas.Bool.Decides.{nat_tests}
use Rattle.std.proofs.Math.Bool.{beq}
use Rattle.clause_store.specs.declared.Lit.{Lit}
use Rattle.clause_store.specs.Clauses.{negated, lit_eq}
use Rattle.clause_store.specs.Propagation.{negations, others}
use Rattle.clause_store.specs.Truth.{is_true}
use Rattle.clause_store.proofs.GeneralLists.{Contains-nil, Contains-head_is, Contains-tail, Contains-cons_cases, Contains-map, Contains-from_map, Contains-filter, Contains-from_filter}

not_not : (b : Bool) → not (not b) ≡ b
not_not true = refl
not_not false = refl

pub negated-negated : (l : Lit) → negated (negated l) ≡ l
negated-negated l = ap (λ b. record l { positive = b }) (not_not l.positive)

pub negations-negations : (lits : List Lit) → negations (negations lits) ≡ lits
negations-negations [] = refl
negations-negations (l ∷ ls) = ap₂ (λ (x : Lit) (xs : List Lit). x ∷ xs) (negated-negated l) (negations-negations ls)

-- a literal is true exactly where its negation isn't
flip : (b x : Bool) → (if not b then x else not x) ≡ not (if b then x else not x)
flip true x = refl
flip false true = refl
flip false false = refl

pub is_true-negated : (values : List Bool) (l : Lit) → is_true values (negated l) ≡ not (is_true values l)
is_true-negated values l = flip l.positive (slice_index_or values (l.var - 1) false)

pub Contains-negations : (clause : List Lit) (l : Lit) → Contains clause l → Contains (negations clause) (negated l)
Contains-negations clause l h = Contains-map negated clause l h

pub Contains-from_negations : (clause : List Lit) (l : Lit) → Contains (negations clause) l → Contains clause (negated l)
Contains-from_negations clause l h =
    let found = Contains-from_map negated clause l h in
    let e : found.0 ≡ negated l = sym (negated-negated found.0) ∙ ap negated found.2 in
    rw (← e) found.1

-- by the test on literals
bit_cases : (a b : Bool) → ((a ≡ b) × (beq a b ≡ true)) ⊎ ((a ≢ b) × (beq a b ≡ false))
bit_cases true true = inl (refl, refl)
bit_cases false false = inl (refl, refl)
bit_cases true false = inr (λ e. cc, refl)
bit_cases false true = inr (λ e. cc, refl)

pub same_lit : (a b : Lit) → a.var ≡ b.var → a.positive ≡ b.positive → a ≡ b
same_lit a b v p = ap (λ (k : ℕ). record a { var = k }) v ∙ ap (λ (t : Bool). record b { positive = t }) p

pub lit_cases : (a b : Lit) → ((a ≡ b) × (lit_eq a b ≡ true)) ⊎ ((a ≢ b) × (lit_eq a b ≡ false))
lit_cases a b = elim (cases_eq a.var b.var) [
  | inl v ↦ elim (bit_cases a.positive b.positive) [
    | inl p ↦ inl (same_lit a b v p.0, grind (arith, nat_tests, p.1))
    | inr p ↦ inr (λ e. p.0 (ap (λ l. l.positive) e), grind (arith, nat_tests, p.1))
  ]
  | inr v ↦ inr (λ e. v (ap (λ l. l.var) e), grind (arith, nat_tests))
]

pub Contains-others : (clause : List Lit) (l m : Lit) → Contains clause m → m ≢ l → Contains (others l clause) m
Contains-others clause l m h ne = elim (lit_cases m l) [
  | inl same ↦ absurd (ne same.0)
  | inr apart ↦ Contains-filter (λ k. not (lit_eq k l)) clause m h (rw apart.1 refl)
]

pub Contains-from_others : (clause : List Lit) (l m : Lit) → Contains (others l clause) m → Contains clause m × (m ≢ l)
Contains-from_others clause l m h =
    let kept = Contains-from_filter (λ k. not (lit_eq k l)) clause m h in (
      kept.0,
      λ e. elim (lit_cases m l) [
        | inl same ↦ let bad : false ≡ true = ap not (sym same.1) ∙ kept.1 in cc
        | inr apart ↦ apart.0 e
      ],
    )

-- whether a literal is in a clause can be told
pub contains_or_not : (clause : List Lit) (l : Lit) → Contains clause l ⊎ (Contains clause l → ⊥)
contains_or_not [] l = inr (Contains-nil l)
contains_or_not (x ∷ xs) l = elim (lit_cases x l) [
  | inl same ↦ inl (Contains-head_is x xs l same.0)
  | inr apart ↦ elim (contains_or_not xs l) [
    | inl later ↦ inl (Contains-tail x xs l later)
    | inr none ↦ inr (λ h. elim (Contains-cons_cases x xs l h) [ inl e ↦ apart.0 e | inr later ↦ none later ])
  ]
]
