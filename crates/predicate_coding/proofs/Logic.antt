-- Tests and what they decide.
use Rattle.std.proofs.Common.{◌≡◌, ◌⊎◌, inl, inr, List, [], ◌∷◌, Bool, true, false, ◌&&◌, Contains, refl, sym, ◌∙◌, ap}
use Rattle.clause_store.specs.declared.Lit.{Lit}
use Rattle.clause_store.specs.Truth.{is_true, MakesTrue}
use Rattle.clause_store.proofs.GeneralLists.{Contains-nil, Contains-cons_cases}
use Rattle.order_coding.proofs.GeneralLists.{Any-here, Any-later, bit_cases}

pub and-first : (a b : Bool) → (a && b) ≡ true → a ≡ true
and-first true b e = refl
and-first false b e = cc

pub and-second : (a b : Bool) → (a && b) ≡ true → b ≡ true
and-second true b e = e
and-second false b e = cc

pub and-both : (a b : Bool) → a ≡ true → b ≡ true → (a && b) ≡ true
and-both true b h k = k
and-both false b h k = cc

pub and-never : {A : Type 0} (a : Bool) → (a && false) ≡ true → A
and-never true e = cc
and-never false e = cc

-- two tests that are true together are the same
pub same-test : (a b : Bool) → (a ≡ true → b ≡ true) → (b ≡ true → a ≡ true) → a ≡ b
same-test true true h k = refl
same-test false false h k = refl
same-test true false h k = sym (h refl)
same-test false true h k = k refl

pub not-true : (a : Bool) → (a ≡ true → ⊥) → a ≡ false
not-true true h = absurd (h refl)
not-true false h = refl

-- a clause is true or all its literals are false
pub true_or_false : (v : List Bool) (xs : List Lit) → MakesTrue v xs ⊎ ((l : Lit) → Contains xs l → is_true v l ≡ false)
true_or_false v [] = inr (λ l h. absurd (Contains-nil l h))
true_or_false v (x ∷ xs) = elim (bit_cases (is_true v x)) [
  | inl e ↦ inl (Any-here (λ l. is_true v l ≡ true) x xs e)
  | inr e ↦ elim (true_or_false v xs) [
    | inl w ↦ inl (Any-later (λ l. is_true v l ≡ true) x xs w)
    | inr none ↦ inr (λ l h. elim (Contains-cons_cases x xs l h) [
      | inl same ↦ ap (is_true v) (sym same) ∙ e
      | inr later ↦ none l later
    ])
  ]
]
