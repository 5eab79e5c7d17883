-- General lemmas: the first item of a list that passes a test.
use Rattle.std.proofs.Common.{◌≡◌, ℕ, zero, suc, ◌+◌, ◌<◌, nat_lt, ltb, Bool, true, false, not, cond, List, [], ◌∷◌, length, Some, None, position, is_some, All, get_or, inl, inr, sym, ◌∙◌, ap, refl, arith}
use Rattle.std.specs.List.{position_or_len}
use Rattle.std.proofs.lemmas.Bool.{cases_Bool, cond-true, lt-ltb, true≢false}
use Rattle.std.proofs.lemmas.Bool.Decides.{nat_tests}
use Rattle.std.proofs.lemmas.List.Elements.{All-head, All-tail}

-- two tests that agree on each item find the same place
place_alike : {X : Type 0} (p q : X → Bool) (xs : List X) → All (λ x. p x ≡ q x) xs → position_or_len p xs ≡ position_or_len q xs
place_alike p q [] all = refl
place_alike p q (x ∷ xs) all =
    ap (λ (t : Bool). cond (not t) (1 + position_or_len p xs) 0) (All-head (λ x. p x ≡ q x) x xs all)
    ∙ ap (λ (n : ℕ). cond (not (q x)) (1 + n) 0) (place_alike p q xs (All-tail (λ x. p x ≡ q x) x xs all))

pub found_alike : {X : Type 0} (p q : X → Bool) (xs : List X) → All (λ x. p x ≡ q x) xs → position p xs ≡ position q xs
found_alike p q xs all = ap (λ (n : ℕ). cond (nat_lt n (length xs)) (Some n) None) (place_alike p q xs all)

place_nowhere : {X : Type 0} (xs : List X) → position_or_len (λ x. false) xs ≡ length xs
place_nowhere [] = refl
place_nowhere (x ∷ xs) = omega (arith, place_nowhere xs)

-- a test that no item passes finds nothing
pub found_nowhere : {X : Type 0} (p : X → Bool) (xs : List X) → All (λ x. p x ≡ false) xs → position p xs ≡ None
found_nowhere p xs none =
    found_alike p (λ x. false) xs none
    ∙ ap (λ (n : ℕ). cond (nat_lt n (length xs)) (Some n) None) (place_nowhere xs)
    ∙ ap (λ (t : Bool). cond t (Some (length xs)) None) (never (length xs))
  where
    never : (n : ℕ) → nat_lt n n ≡ false
    never n = grind (arith, nat_tests)

-- an item that passes is found
pub passes_within : {X : Type 0} (p : X → Bool) (xs : List X) (k : ℕ) (d : X) → k < length xs → p (get_or xs k d) ≡ true → position_or_len p xs < length xs
passes_within p [] k d there h = absurd (omega arith)
passes_within p (x ∷ xs) zero d there h = rw h (omega arith)
passes_within p (x ∷ xs) (suc k) d there h = elim (cases_Bool (p x)) [
  | inl e ↦ rw e (omega arith)
  | inr e ↦ rw e (omega (arith, passes_within p xs k d (omega arith) h))
]

-- an item that passes isn't there where none is found
pub fresh : {X : Type 0} (p : X → Bool) (xs : List X) → is_some (position p xs) ≡ false → (k : ℕ) (d : X) → k < length xs → p (get_or xs k d) ≡ true → ⊥
fresh p xs none k d there h =
    let found : position p xs ≡ Some (position_or_len p xs) = cond-true (ltb (position_or_len p xs) (length xs)) _ _ (lt-ltb _ _ (passes_within p xs k d there h)) in
    true≢false (sym (ap is_some found) ∙ none)
