-- Counting the items of a list that pass a test.
use Rattle.std.proofs.Common.{◌≡◌, ◌≢◌, ℕ, zero, suc, ◌+◌, ◌<◌, ◌≤◌, inl, inr, Bool, true, false, cond, List, [], ◌∷◌, slice_get, Some, count_by, refl, ap, sym, ◌∙◌, arith}
use Rattle.std.specs.List.{Contains}
use Rattle.std.proofs.lemmas.List.Sums.{sum_by-cons}
use Rattle.std.proofs.lemmas.Option.{same_Some}
use Rattle.trail_core.proofs.GeneralPlaces.{contains-get}
use Rattle.clause_store.proofs.GeneralLists.{Contains-nil, Contains-head, Contains-tail, Contains-cons_cases}
use Rattle.trail_core.specs.Course.{Entry, HaveOnce}

yes : (b : Bool) → b ≡ true → ◌≡◌ {A = ℕ} (cond b 1 0) 1
yes b e = ap (λ (c : Bool). cond c 1 0) e

no : (b : Bool) → b ≡ false → ◌≡◌ {A = ℕ} (cond b 1 0) 0
no b e = ap (λ (c : Bool). cond c 1 0) e

pub count-cons : {A : Type 0} (p : A → Bool) (y : A) (ys : List A) → count_by p (y ∷ ys) ≡ cond (p y) 1 0 + count_by p ys
count-cons p y ys = sum_by-cons (λ x. cond (p x) 1 0) y ys

pub count-some : {A : Type 0} (p : A → Bool) (xs : List A) (x : A) → Contains xs x → p x ≡ true → 1 ≤ count_by p xs
count-some p [] x h e = absurd (Contains-nil x h)
count-some p (y ∷ ys) x h e = elim (Contains-cons_cases y ys x h) [
  | inl same ↦ let one = yes (p y) (ap p same ∙ e) in omega (arith, one, count-cons p y ys)
  | inr later ↦ omega (arith, count-some p ys x later e, count-cons p y ys)
]

abbrev pub Passes : {A : Type 0} → (A → Bool) → List A → ℕ → A → Type 0
Passes p xs k x = (slice_get xs k ≡ Some x) × (p x ≡ true)

pub count-exists : {A : Type 0} (p : A → Bool) (xs : List A) → 1 ≤ count_by p xs → (k : ℕ) × (x : A) × Passes p xs k x
count-exists p [] h = absurd (omega (arith, h))
count-exists {A} p (y ∷ ys) h = split (p y) refl (λ g. count-exists p ys g)
  where
    split : (b : Bool) → p y ≡ b → (1 ≤ count_by p ys → (k : ℕ) × (x : A) × Passes p ys k x) → (k : ℕ) × (x : A) × Passes p (y ∷ ys) k x
    split true e rest = (0, y, (refl, e))
    split false e rest = let none = no (p y) e in let r = rest (omega (arith, h, none, count-cons p y ys)) in (suc r.0, r.1, r.2)

pub count-two : {A : Type 0} (p : A → Bool) (xs : List A) (k : ℕ) → 1 < count_by p xs → (j : ℕ) × (x : A) × (j ≢ k) × Passes p xs j x
count-two p [] k h = absurd (omega (arith, h))
count-two {A} p (y ∷ ys) zero h = split (p y) refl
  where
    split : (b : Bool) → p y ≡ b → (j : ℕ) × (x : A) × (j ≢ 0) × Passes p (y ∷ ys) j x
    split true e = let one = yes (p y) e in let r = count-exists p ys (omega (arith, h, one, count-cons p y ys)) in (suc r.0, r.1, omega arith, r.2)
    split false e = let none = no (p y) e in let r = count-exists p ys (omega (arith, h, none, count-cons p y ys)) in (suc r.0, r.1, omega arith, r.2)
count-two {A} p (y ∷ ys) (suc k) h = split (p y) refl (λ g. count-two p ys k g)
  where
    split : (b : Bool) → p y ≡ b → (1 < count_by p ys → (j : ℕ) × (x : A) × (j ≢ k) × Passes p ys j x) → (j : ℕ) × (x : A) × (j ≢ suc k) × Passes p (y ∷ ys) j x
    split true e rest = (0, y, omega arith, (refl, e))
    split false e rest = let none = no (p y) e in let r = rest (omega (arith, h, none, count-cons p y ys)) in (suc r.0, r.1, (λ q. r.2 (omega (arith, q))), r.3)

-- where one item at most passes, two that pass are one
pub count-one : {A : Type 0} (p : A → Bool) (xs : List A) (j k : ℕ) (x y : A) → count_by p xs ≤ 1 → slice_get xs j ≡ Some x → p x ≡ true → slice_get xs k ≡ Some y → p y ≡ true → j ≡ k
count-one p [] j k x y h at px at' py = cc
count-one p (z ∷ zs) zero zero x y h at px at' py = refl
count-one p (z ∷ zs) zero (suc k) x y h at px at' py =
    let one = yes (p z) (ap p (same_Some z x at) ∙ px) in
    absurd (omega (arith, h, one, count-cons p z zs, count-some p zs y (contains-get zs k y at') py))
count-one p (z ∷ zs) (suc j) zero x y h at px at' py =
    let one = yes (p z) (ap p (same_Some z y at') ∙ py) in
    absurd (omega (arith, h, one, count-cons p z zs, count-some p zs x (contains-get zs j x at) px))
count-one p (z ∷ zs) (suc j) (suc k) x y h at px at' py =
    ap (λ (i : ℕ). suc i) (count-one p zs j k x y (omega (arith, h, count-cons p z zs)) at px at' py)

pub count-same : {A : Type 0} (p q : A → Bool) (xs : List A) → ((x : A) → Contains xs x → p x ≡ q x) → count_by p xs ≡ count_by q xs
count-same p q [] h = refl
count-same p q (x ∷ xs) h =
    let here : ◌≡◌ {A = ℕ} (cond (p x) 1 0) (cond (q x) 1 0) = ap (λ (b : Bool). cond b 1 0) (h x (Contains-head x xs)) in
    omega (arith, here, count-cons p x xs, count-cons q x xs, count-same p q xs (λ y c. h y (Contains-tail x xs y c)))

-- where one entry passes besides those that passed before
pub count-more : (p q : Entry → Bool) (es : List Entry) (e : Entry) → HaveOnce es → Contains es e → p e ≡ false → q e ≡ true → ((f : Entry) → Contains es f → f.lit.var ≢ e.lit.var → p f ≡ q f) → count_by q es ≡ count_by p es + 1
count-more p q [] e once h pe qe same = absurd (Contains-nil e h)
count-more p q (x ∷ xs) e once h pe qe same = elim (Contains-cons_cases x xs e h) [
  | inl here ↦
      let zero' = no (p x) (ap p here ∙ pe) in
      let one = yes (q x) (ap q here ∙ qe) in
      let rest = count-same p q xs (λ f c. same f (Contains-tail x xs f c) (λ v. once.0 f c (v ∙ sym (ap (λ (k : Entry). k.lit.var) here)))) in
      omega (arith, zero', one, rest, count-cons p x xs, count-cons q x xs)
  | inr later ↦
      let here : ◌≡◌ {A = ℕ} (cond (p x) 1 0) (cond (q x) 1 0) = ap (λ (b : Bool). cond b 1 0) (same x (Contains-head x xs) (λ v. once.0 e later (sym v))) in
      let rest = count-more p q xs e once.1 later pe qe (λ f c. same f (Contains-tail x xs f c)) in
      omega (arith, here, rest, count-cons p x xs, count-cons q x xs)
]
