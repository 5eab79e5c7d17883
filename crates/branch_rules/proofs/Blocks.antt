-- A block of a list that is gone through as a whole.
use Rattle.std.proofs.Common.{◌≡◌, ◌≢◌, ℕ, zero, suc, ◌+◌, ◌-◌, ◌<◌, inl, inr, Bool, List, [], ◌∷◌, Option, Some, None, take, drop, slice_get, refl, ◌∙◌, arith}
use Rattle.std.proofs.lemmas.Bool.{cases_lt}
use Rattle.branch_rules.specs.Choosing.{IsOpen}

read-drop : {A : Type 0} (xs : List A) (s i k : ℕ) → k ≡ s + i → slice_get (drop s xs) i ≡ slice_get xs k
read-drop xs zero i k e = let same : i ≡ k = omega (arith, e) in rw same refl
read-drop [] (suc s) i k e = refl
read-drop (x ∷ xs) (suc s) i zero e = absurd (omega (arith, e))
read-drop (x ∷ xs) (suc s) i (suc k) e = read-drop xs s i k (omega (arith, e))

read-take : {A : Type 0} (xs : List A) (n i : ℕ) → i < n → slice_get (take n xs) i ≡ slice_get xs i
read-take xs zero i lt = absurd (omega (arith, lt))
read-take [] (suc n) i lt = refl
read-take (x ∷ xs) (suc n) zero lt = refl
read-take (x ∷ xs) (suc n) (suc i) lt = read-take xs n i (omega (arith, lt))

pub block-passed :
    (values : List (Option Bool)) (start n : ℕ)
    → ((i : ℕ) → slice_get (take n (drop start values)) i ≢ Some None)
    → ((w : ℕ) → IsOpen values w → start < w) → (w : ℕ) → IsOpen values w → start + n < w
block-passed values start n set passed w without = elim (cases_lt (start + n) w) [
  | inl lt ↦ lt
  | inr le ↦
      let before = passed w without in
      let i : ℕ = w - 1 - start in
      let lt : i < n = omega (arith, le, before) in
      absurd (set i (read-take (drop start values) n i lt ∙ read-drop values start i (w - 1) (omega (arith, before)) ∙ without.1))
]
