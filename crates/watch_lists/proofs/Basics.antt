-- Laws of lists, of places and of the numbers of chains.
use Rattle.std.proofs.Common.{◌≡◌, ◌≢◌, ℕ, zero, suc, ◌+◌, ◌*◌, ◌/◌, ◌%◌, ◌<◌, ◌≤◌, ◌⊎◌, inl, inr, Bool, true, false, cond, eqb, List, [], ◌∷◌, length, set, map, slice_get, Some, refl, ap, sym, ◌∙◌, subst, arith}
use Rattle.std.specs.List.{Contains}
use Rattle.std.proofs.lemmas.Bool.{cases_eq}
use Rattle.std.proofs.lemmas.Bool.Decides.{nat_tests}
use Rattle.std.proofs.lemmas.Option.{same_Some}
use Rattle.trail_core.proofs.GeneralPlaces.{contains-get, get-contained}
use Rattle.clause_store.specs.declared.Lit.{Lit}
use Rattle.watch_lists.specs.Going.{code, place}

pub get-set-same : {A : Type 0} (xs : List A) (i : ℕ) (a : A) → i < length xs → slice_get (set xs i a) i ≡ Some a
get-set-same [] i a h = absurd (omega arith)
get-set-same (x ∷ xs) zero a h = refl
get-set-same (x ∷ xs) (suc i) a h = get-set-same xs i a (omega arith)

pub get-set-other : {A : Type 0} (xs : List A) (i j : ℕ) (a : A) → j ≢ i → slice_get (set xs i a) j ≡ slice_get xs j
get-set-other [] i j a ne = refl
get-set-other (x ∷ xs) zero zero a ne = absurd (ne refl)
get-set-other (x ∷ xs) zero (suc j) a ne = refl
get-set-other (x ∷ xs) (suc i) zero a ne = refl
get-set-other (x ∷ xs) (suc i) (suc j) a ne = get-set-other xs i j a (λ e. ne (ap (λ (k : ℕ). suc k) e))

-- what stands in a list with one item changed
pub get-set : {A : Type 0} (xs : List A) (i j : ℕ) (a b : A) → i < length xs → slice_get (set xs i a) j ≡ Some b → ((j ≡ i) × (b ≡ a)) ⊎ ((j ≢ i) × (slice_get xs j ≡ Some b))
get-set xs i j a b lt e = elim (cases_eq j i) [
  | inl same ↦
      let P : ℕ → Type 0 = λ k. slice_get (set xs i a) k ≡ Some b in
      inl (same, same_Some b a (sym (subst P same e) ∙ get-set-same xs i a lt))
  | inr ne ↦ inr (ne, sym (get-set-other xs i j a ne) ∙ e)
]

pub contains-set : {A : Type 0} (xs : List A) (i : ℕ) (a b : A) → i < length xs → Contains (set xs i a) b → (b ≡ a) ⊎ Contains xs b
contains-set xs i a b lt h =
    let at = get-contained (set xs i a) b h in
    elim (get-set xs i at.0 a b lt at.1) [ inl here ↦ inl here.1 | inr there ↦ inr (contains-get xs at.0 b there.1) ]

pub map-set : {A B : Type 0} (f : A → B) (xs : List A) (i : ℕ) (a x : A) → slice_get xs i ≡ Some x → f a ≡ f x → map f (set xs i a) ≡ map f xs
map-set f [] i a x e q = refl
map-set f (y ∷ ys) zero a x e q = let same : y ≡ x = same_Some y x e in ap (λ b. b ∷ map f ys) (q ∙ ap f (sym same))
map-set f (y ∷ ys) (suc i) a x e q = ap (λ bs. f y ∷ bs) (map-set f ys i a x e q)

pub first-parts : (ys : List ℕ) (p : ℕ) → slice_get ys 0 ≡ Some p → (xs : List ℕ) × (ys ≡ p ∷ xs)
first-parts [] p e = cc
first-parts (y ∷ ys) p e = (ys, ap (λ (k : ℕ). k ∷ ys) (same_Some y p e))

-- places
pub place-inj : (i j : ℕ) (b c : Bool) → place i b ≡ place j c → (i ≡ j) × (b ≡ c)
place-inj i j true true e = (omega (arith, e), refl)
place-inj i j false false e = (omega (arith, e), refl)
place-inj i j true false e = absurd (omega (arith, e))
place-inj i j false true e = absurd (omega (arith, e))

pub place-of : (p : ℕ) (b : Bool) → b ≡ eqb (p % 2) 1 → p ≡ place (p / 2) b
place-of p true e = let odd : p % 2 ≡ 1 = grind (arith, nat_tests) in omega arith
place-of p false e = let even : p % 2 ≢ 1 = grind (arith, nat_tests) in omega arith

pub slot-of : (p i : ℕ) (b : Bool) → p ≡ place i b → (p / 2 ≡ i) × (eqb (p % 2) 1 ≡ b)
slot-of p i true e = (omega (arith, e), (let odd : p % 2 ≡ 1 = omega (arith, e) in grind (arith, nat_tests)))
slot-of p i false e = (omega (arith, e), (let even : p % 2 ≡ 0 = omega (arith, e) in grind (arith, nat_tests)))

-- the numbers of chains
pub code-not0 : (l : Lit) → 0 ≡ code l → ⊥
code-not0 l e = omega (arith, e)

bit-inj : (v w : ℕ) (a b : Bool) → 2 * v + cond a 1 0 + 1 ≡ 2 * w + cond b 1 0 + 1 → (v ≡ w) × (a ≡ b)
bit-inj v w true true e = (omega (arith, e), refl)
bit-inj v w false false e = (omega (arith, e), refl)
bit-inj v w true false e = absurd (omega (arith, e))
bit-inj v w false true e = absurd (omega (arith, e))

pub code-inj : (l m : Lit) → code l ≡ code m → l ≡ m
code-inj l m e =
    let q = bit-inj l.var m.var l.positive m.positive e in
    ap (λ (k : ℕ). record l { var = k }) q.0 ∙ ap (λ (t : Bool). record m { positive = t }) q.1

pub code-lt : (l : Lit) (n : ℕ) → l.var ≤ n → code l < 2 * n + 3
code-lt l n h = bound l.positive
  where
    bound : (b : Bool) → 2 * l.var + cond b 1 0 + 1 < 2 * n + 3
    bound true = omega (arith, h)
    bound false = omega (arith, h)
