-- Private: what the tests' oracle counts, and laws of it.
use Rattle.std.specs.Prelude.{◌≡◌, ℕ, zero, suc, ◌+◌, ◌≤◌, List, [], ◌∷◌, Bool, true, false, ◌&&◌, get_or, cond}
use Rattle.std.proofs.Common.{refl, subst}
use Rattle.std.proofs.Math.Nat.{le_refl, le_trans, le-add_left, add-le-add}
use Rattle.sync_shrink.specs.Sets.{IsPart}

-- how many of the first n things are in both sets
abbrev pub held : ℕ → List Bool → List Bool → ℕ
held zero marks s = 0
held (suc n) marks s = held n marks s + cond (get_or marks n false && get_or s n false) 1 0

-- fewer of the marked things are there than there have to be
abbrev pub IsLow : ℕ → List Bool → ℕ → List Bool → Type 0
IsLow n marks least s = held n marks s + 1 ≤ least

abbrev IsFalse : Bool → Type 0
IsFalse true = ⊥
IsFalse false = Unit {0}

there : (t s : List Bool) (k : ℕ) → IsPart t s → get_or t k false ≡ true → get_or s k false ≡ true
there [] [] k p h = h
there [] (y ∷ s) k p h = absurd p
there (x ∷ t) [] k p h = absurd p
there (x ∷ t) (y ∷ s) zero p h = p.0 h
there (x ∷ t) (y ∷ s) (suc k) p h = there t s k p.1 h

one : (m x y : Bool) → (x ≡ true → y ≡ true) → cond (m && x) 1 0 ≤ cond (m && y) 1 0
one false x y h = le_refl 0
one true false false h = le_refl 0
one true false true h = le-add_left 0 1
one true true true h = le_refl 1
one true true false h = absurd (subst IsFalse (h refl) tt)

fewer : (n : ℕ) (marks t s : List Bool) → IsPart t s → held n marks t ≤ held n marks s
fewer zero marks t s p = le_refl 0
fewer (suc n) marks t s p =
    add-le-add (fewer n marks t s p) (one (get_or marks n false) (get_or t n false) (get_or s n false) (there t s n p))

-- a part of a set that is low is low
pub part_low : (n : ℕ) (marks : List Bool) (least : ℕ) (t s : List Bool) → IsPart t s → IsLow n marks least s → IsLow n marks least t
part_low n marks least t s p h = le_trans (add-le-add (fewer n marks t s p) (le_refl 1)) h

-- where the settings are the same, so are the low sets
pub same_low : (n m : ℕ) (marks others : List Bool) (least less : ℕ) (s : List Bool) → n ≡ m → marks ≡ others → least ≡ less → IsLow n marks least s → IsLow m others less s
same_low n m marks others least less s e f g h =
    subst (λ (k : ℕ). IsLow k others less s) e (subst (λ (l : List Bool). IsLow n l less s) f (subst (λ (k : ℕ). IsLow n marks k s) g h))
