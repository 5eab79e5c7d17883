-- General: reasons on a trail that changes, and the clause of a cut after the jump back. These lemmas are on the definitions alone, and
-- other crates may cite them.
use Rattle.std.proofs.Common.{◌≡◌, ℕ, zero, suc, ◌-◌, ◌<◌, ◌≤◌, ◌≢◌, ◌⊎◌, inl, inr, List, [], ◌∷◌, ◌++◌, length, take, slice_get, Some, None, refl, ap, sym, ◌∙◌, subst, arith}
use Rattle.std.specs.List.{Contains}
use Rattle.std.proofs.lemmas.Bool.{cases_eq}
use Rattle.std.proofs.lemmas.Option.{same_Some, slice_get_within}
use Rattle.clause_store.specs.declared.Lit.{Lit}
use Rattle.clause_store.specs.Clauses.{negated}
use Rattle.clause_store.proofs.GeneralLists.{Contains-nil, Contains-head, Contains-tail, Contains-cons_cases}
use Rattle.trail_core.proofs.GeneralPlaces.{get-more, get-more-cases}
use Rattle.trail_core.specs.Course.{Entry, Course, IsCourse, up_to}
use Rattle.trail_core.proofs.GeneralTrails.{once-same, level-at-most}
use Rattle.trail_core.proofs.GeneralTrails.{up_to-front, from-up_to, to-up_to}
use Rattle.conflict_cut.specs.Cut.{FailsAt, IsConflict, HasPresent, IsReason, AreReasons, IsAsserting}
use Rattle.trail_core.specs.Standing.{AllFail, IsUnit}

take-front : {A : Type 0} (xs : List A) (x : A) (k : ℕ) → k ≤ length xs → take k (xs ++ x ∷ []) ≡ take k xs
take-front [] x zero le = refl
take-front [] x (suc k) le = absurd (omega (arith, le))
take-front (z ∷ zs) x zero le = refl
take-front (z ∷ zs) x (suc k) le = ap (λ ys. z ∷ ys) (take-front zs x k (omega (arith, le)))

take-whole : {A : Type 0} (xs : List A) → take (length xs) xs ≡ xs
take-whole [] = refl
take-whole (x ∷ xs) = ap (λ ys. x ∷ ys) (take-whole xs)

pub reasons-none : (clauses : List (List Lit)) → AreReasons clauses []
reasons-none clauses k e id at by = cc

old-reasons : (clauses : List (List Lit)) (es : List Entry) (x : Entry) → AreReasons clauses es → (k : ℕ) (e : Entry) (id : ℕ) → slice_get es k ≡ Some e → e.reason ≡ Some id → IsReason clauses (take k (es ++ x ∷ [])) e.lit id
old-reasons clauses es x h k e id at by =
    let P : List Entry → Type 0 = λ before. IsReason clauses before e.lit id in
    let lt = slice_get_within es k e at in
    subst P (sym (take-front es x k (omega (arith, lt)))) (h k e id at by)

pub reasons-decided : (clauses : List (List Lit)) (es : List Entry) (x : Entry) → AreReasons clauses es → x.reason ≡ None → AreReasons clauses (es ++ x ∷ [])
reasons-decided clauses es x h none k e id at by = elim (get-more-cases es x k e at) [
  | inl old ↦ old-reasons clauses es x h k e id old by
  | inr new ↦ (let bad : Some id ≡ None = sym by ∙ ap (λ (f : Entry). f.reason) new.1 ∙ none in cc)
]

pub reasons-implied : (clauses : List (List Lit)) (es : List Entry) (x : Entry) (n : ℕ) → AreReasons clauses es → x.reason ≡ Some n → IsReason clauses es x.lit n → AreReasons clauses (es ++ x ∷ [])
reasons-implied clauses es x n h by-n r k e id at by = elim (get-more-cases es x k e at) [
  | inl old ↦ old-reasons clauses es x h k e id old by
  | inr new ↦
      let same : n ≡ id = same_Some n id (sym by-n ∙ ap (λ (f : Entry). f.reason) (sym new.1) ∙ by) in
      let front : es ≡ take k (es ++ x ∷ []) = sym (ap (λ (i : ℕ). take i (es ++ x ∷ [])) new.0 ∙ take-front es x (length es) (omega arith) ∙ take-whole es) in
      let P : ℕ → Type 0 = λ i. IsReason clauses es x.lit i in
      let Q : List Entry → Type 0 = λ before. IsReason clauses before x.lit id in
      let R : Entry → Type 0 = λ f. IsReason clauses (take k (es ++ x ∷ [])) f.lit id in
      subst R (sym new.1) (subst Q front (subst P same r))
]

take-take : {A : Type 0} (m k : ℕ) (xs : List A) (x : A) → slice_get (take m xs) k ≡ Some x → (slice_get xs k ≡ Some x) × (take k (take m xs) ≡ take k xs)
take-take zero k xs x at = cc
take-take (suc m) k [] x at = cc
take-take (suc m) zero (y ∷ ys) x at = (at, refl)
take-take (suc m) (suc k) (y ∷ ys) x at = let r = take-take m k ys x at in (r.0, ap (λ zs. y ∷ zs) r.1)

reasons-take : (clauses : List (List Lit)) (es : List Entry) (m : ℕ) → AreReasons clauses es → AreReasons clauses (take m es)
reasons-take clauses es m h k e id at by =
    let r = take-take m k es e at in
    let P : List Entry → Type 0 = λ before. IsReason clauses before e.lit id in
    subst P (sym r.1) (h k e id r.0 by)

pub reasons-back : (clauses : List (List Lit)) (t : Course) (level : ℕ) → IsCourse t → AreReasons clauses t.entries → AreReasons clauses (up_to level t.entries)
reasons-back clauses t level course h =
    let P : List Entry → Type 0 = λ es. AreReasons clauses es in
    subst P (sym (up_to-front level 0 t.entries t.level course.rises)) (reasons-take clauses t.entries (length (up_to level t.entries)) h)

pub reasons-more : (clauses : List (List Lit)) (clause : List Lit) (es : List Entry) → AreReasons clauses es → AreReasons (clauses ++ clause ∷ []) es
reasons-more clauses clause es h k e id at by =
    let r = h k e id at by in (r.0, get-more clauses clause id r.0 r.1, r.2, r.3)

pub unit-after : (t : Course) (clause : List Lit) (level : ℕ) → IsCourse t → level < t.level → IsAsserting t clause level → IsUnit (up_to level t.entries) clause
unit-after t clause level course lt a = (
  a.lit,
  a.has,
  λ f c q.
      let old = from-up_to level t.entries f c in
      let top = a.present in
      let same : f ≡ top.0 = once-same t.entries f top.0 course.once old.0 top.1 (q ∙ sym (ap (λ (l : Lit). l.var) top.2)) in
      let levels : f.level ≡ top.0.level = ap (λ (e : Entry). e.level) same in
      omega (arith, levels, top.3, old.1, lt),
  λ m c ne.
      let low = a.others.each m (c, ne) in
      let f = low.1 in
      let le : f.0.level ≤ level = omega (arith, f.3, low.3) in
      (f.0, to-up_to level t.entries f.0 f.1 le, f.2),
)

low-entry : (t : Course) (e : Entry) → IsCourse t → Contains t.entries e → e.level ≢ t.level → Contains (up_to (t.level - 1) t.entries) e
low-entry t e course has ne =
    let le : e.level ≤ t.level - 1 = omega (arith, ne, level-at-most 0 t.entries t.level e course.rises has) in
    to-up_to (t.level - 1) t.entries e has le

present-or-low :
    (t : Course) (clause : List Lit) → IsCourse t → AllFail t.entries clause
    → ((l : Lit) × Contains clause l × FailsAt t.entries l t.level) ⊎ AllFail (up_to (t.level - 1) t.entries) clause
present-or-low t [] course fail = inr (λ m c. absurd (Contains-nil m c))
present-or-low t (l ∷ ls) course fail =
    let f = fail l (Contains-head l ls) in
    elim (cases_eq f.0.level t.level) [
      | inl same ↦ inl (l, Contains-head l ls, (f.0, f.1, f.2, same))
      | inr ne ↦ elim (present-or-low t ls course (λ m c. fail m (Contains-tail l ls m c))) [
        | inl found ↦ inl (found.0, Contains-tail l ls found.0 found.1, found.2)
        | inr rest ↦ inr (λ m c. elim (Contains-cons_cases l ls m c) [
          | inl same ↦ (f.0, low-entry t f.0 course f.1 ne, f.2 ∙ ap negated same)
          | inr later ↦ rest m later
        ])
      ]
    ]

pub conflict-present :
    (clauses : List (List Lit)) (t : Course) (id : ℕ)
    → IsCourse t → IsConflict clauses t.entries id → (IsConflict clauses (up_to (t.level - 1) t.entries) id → ⊥)
    → HasPresent clauses t id
conflict-present clauses t id course conflict before = elim (present-or-low t conflict.0 course conflict.2) [
  | inl found ↦ (conflict.0, conflict.1, found)
  | inr low ↦ absurd (before (conflict.0, conflict.1, low))
]
