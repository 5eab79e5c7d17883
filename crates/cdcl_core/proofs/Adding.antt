-- Taking a clause in at level 0.
use Rattle.std.proofs.Common.{◌≡◌, ◌≢◌, ℕ, zero, suc, ◌+◌, ◌<◌, ◌≤◌, ◌⊎◌, inl, inr, List, [], ◌∷◌, ◌++◌, length, take, drop, slice_get, Some, refl, ap, sym, ◌∙◌, subst, arith}
use Rattle.std.specs.List.{Contains}
use Rattle.std.proofs.lemmas.Option.{same_Some, slice_get_within}
use Rattle.std.proofs.lemmas.List.Elements.{Contains-push, Contains-append_left}
use Rattle.clause_store.specs.declared.Lit.{Lit}
use Rattle.clause_store.specs.Clauses.{Formula, InVars}
use Rattle.clause_store.specs.Propagation.{Follows}
use Rattle.clause_store.proofs.GeneralLists.{Contains-nil, Contains-head, Contains-tail, Contains-cons_cases}
use Rattle.clause_store.proofs.GeneralLiterals.{lit_cases}
use Rattle.trail_core.specs.Course.{Entry, Course, IsCourse, Holds, HasNoValue, extended}
use Rattle.trail_core.specs.Standing.{OthersFail, IsUnit}
use Rattle.trail_core.proofs.GeneralTrails.{level-at-most, free-not-fails, IsCourse-push}
use Rattle.trail_core.proofs.GeneralPlaces.{get-more-cases, get-new}
use Rattle.watch_lists.specs.Watching.{Watch, numbers, IsNotFalse, IsWellChosen, CanBeWatched}
use Rattle.watch_lists.proofs.GeneralWatches.{longer, others, at-once, watches-more, clauses-more}
use Rattle.conflict_cut.specs.Cut.{AreReasons, IsConflict, NameOnce}
use Rattle.conflict_cut.proofs.GeneralLevels.{trail-refuted}
use Rattle.conflict_cut.proofs.GeneralReasons.{reasons-more, reasons-implied}
use Rattle.cdcl_core.specs.Search.{IsTrueAtZero, IsSearch, with_clause}
use Rattle.cdcl_core.proofs.Learning.{numbers-more, numbers-new}

pub take-next : {A : Type 0} (xs : List A) (k : ℕ) (x : A) → slice_get xs k ≡ Some x → take (suc k) xs ≡ take k xs ++ x ∷ []
take-next [] k x at = cc
take-next (y ∷ ys) zero x at = ap (λ z. z ∷ []) (same_Some y x at)
take-next (y ∷ ys) (suc k) x at = ap (λ zs. y ∷ zs) (take-next ys k x at)

take-long : {A : Type 0} (xs : List A) (k : ℕ) → k ≤ length xs → k ≡ length (take k xs)
take-long xs zero h = refl
take-long [] (suc k) h = absurd (omega (arith, h))
take-long (y ∷ ys) (suc k) h = ap (λ (i : ℕ). suc i) (take-long ys k (omega (arith, h)))

get-take : {A : Type 0} (xs : List A) (n k : ℕ) (x : A) → slice_get (take n xs) k ≡ Some x → slice_get xs k ≡ Some x
get-take xs zero k x at = cc
get-take [] (suc n) k x at = cc
get-take (y ∷ ys) (suc n) zero x at = at
get-take (y ∷ ys) (suc n) (suc k) x at = get-take ys n k x at

pub take-grown : {A : Type 0} (xs : List A) (x : A) (n : ℕ) → n ≡ length xs → take n (xs ++ x ∷ []) ≡ xs
take-grown [] x zero e = refl
take-grown [] x (suc n) e = absurd (omega (arith, e))
take-grown (y ∷ ys) x zero e = absurd (omega (arith, e))
take-grown (y ∷ ys) x (suc n) e = ap (λ zs. y ∷ zs) (take-grown ys x n (omega (arith, e)))

-- a formula that was added to and cut back
pub cut-back : (f g h : Formula) (clause : List Lit) (n : ℕ) → g ≡ with_clause f clause → n ≡ length f.clauses → h ≡ record g { clauses = take n g.clauses } → h ≡ f
cut-back f g h clause n is e cut =
    cut ∙ ap (λ (x : Formula). record x { clauses = take n x.clauses }) is ∙ ap (λ cs. record { vars = f.vars; clauses = cs }) (take-grown f.clauses clause n e)

-- watching a clause that was learned
pub two-of : (c : List Lit) → NameOnce c → 2 ≤ length c → (l : Lit) × (m : Lit) × Contains c l × Contains c m × (l ≢ m)
two-of [] once h = absurd (omega (arith, h))
two-of (x ∷ []) once h = absurd (omega (arith, h))
two-of (x ∷ y ∷ ys) once h = (
  x,
  y,
  Contains-head x (y ∷ ys),
  Contains-tail x (y ∷ ys) y (Contains-head y ys),
  λ e. once.0 y (Contains-head y ys) (sym (ap (λ (l : Lit). l.var) e)),
)

pub one-of : (c : List Lit) → length c < 2 → (l m : Lit) → Contains c l → Contains c m → l ≡ m
one-of [] h l m hl hm = absurd (Contains-nil l hl)
one-of (x ∷ []) h l m hl hm = elim (Contains-cons_cases x [] l hl) [
  | inl a ↦ elim (Contains-cons_cases x [] m hm) [ inl b ↦ sym a ∙ b | inr none ↦ absurd (Contains-nil m none) ]
  | inr none ↦ absurd (Contains-nil l none)
]
one-of (x ∷ y ∷ ys) h l m hl hm = absurd (omega (arith, h))

pub can-hook : (clauses : List (List Lit)) (es : List Entry) (c : List Lit) (id : ℕ) → slice_get clauses id ≡ Some c → NameOnce c → 2 ≤ length c → IsUnit es c → CanBeWatched clauses es id
can-hook clauses es c id at once h unit = (c, at, (unit.0, unit.1, λ f. free-not-fails es unit.0 unit.2 f), two-of c once h)

-- a clause that is true
pub true-zero : (t : Course) (c : List Lit) (l : Lit) → IsCourse t → t.level ≡ 0 → Contains c l → Holds t.entries l → IsTrueAtZero t.entries c
true-zero t c l k z has (e, ce, q) = (l, e, has, ce, q, omega (arith, z, level-at-most 0 t.entries t.level e k.rises ce))

known-with : (clauses : List (List Lit)) (clause : List Lit) (list xs : List Watch) (es fs : List Entry)
    → ((id : ℕ) (c : List Lit) → slice_get clauses id ≡ Some c → Contains (numbers list) id ⊎ IsTrueAtZero es c)
    → ((n : ℕ) → Contains (numbers list) n → Contains (numbers xs) n) → ((e : Entry) → Contains es e → Contains fs e)
    → Contains (numbers xs) (length clauses) ⊎ IsTrueAtZero fs clause
    → (n : ℕ) (c : List Lit) → slice_get (clauses ++ clause ∷ []) n ≡ Some c → Contains (numbers xs) n ⊎ IsTrueAtZero fs c
known-with clauses clause list xs es fs known more longer' last n c at = elim (get-more-cases clauses clause n c at) [
  | inl was ↦ elim (known n c was) [
    | inl attached ↦ inl (more n attached)
    | inr z ↦ inr (z.0, z.1, z.2, longer' z.1 z.3, z.4, z.5)
  ]
  | inr now ↦
      let P : ℕ → List Lit → Type 0 = λ k d. Contains (numbers xs) k ⊎ IsTrueAtZero fs d in
      let Q : ℕ → Type 0 = λ k. P k c in
      subst Q (sym now.0) (subst (P (length clauses)) (sym now.1) last)
]

pub search-true : (clauses : List (List Lit)) (clause : List Lit) (list : List Watch) (t : Course) → IsSearch clauses list t → IsTrueAtZero t.entries clause → IsSearch (clauses ++ clause ∷ []) list t
search-true clauses clause list t s z = record {
  course = s.course;
  reasons = reasons-more clauses clause t.entries s.reasons;
  watches = clauses-more clauses clause list s.watches;
  in_step = s.in_step;
  unseen = s.unseen;
  known = known-with clauses clause list list t.entries t.entries s.known (λ n c. c) (λ e c. c) (inr z);
}

pub search-wide : (clauses : List (List Lit)) (clause : List Lit) (list : List Watch) (t : Course) (w : Watch) (l m : Lit) → IsSearch clauses list t
    → Contains clause l → Contains clause m → m ≢ l → HasNoValue t.entries l.var → HasNoValue t.entries m.var
    → w.clause ≡ length clauses → IsWellChosen (clauses ++ clause ∷ []) t.entries w → IsSearch (clauses ++ clause ∷ []) (list ++ w ∷ []) t
search-wide clauses clause list t w l m s hl hm ne fl fm is good = record {
  course = s.course;
  reasons = reasons-more clauses clause t.entries s.reasons;
  watches = watches-more (clauses ++ clause ∷ []) t.entries list w (clauses-more clauses clause list s.watches) good;
  in_step = (let g = at-once t w (first-free good) (second-free good) w (Contains-head w []) in others list w t s.in_step g.0 g.1);
  unseen = s.unseen;
  known = known-with clauses clause list (list ++ w ∷ []) t.entries t.entries s.known (λ n c. numbers-more list w n c) (λ e c. c) (inl (numbers-new list w (length clauses) is));
}
  where
    first-free : IsWellChosen (clauses ++ clause ∷ []) t.entries w → IsNotFalse t.entries w.first
    first-free g = g.5

    second-free : IsWellChosen (clauses ++ clause ∷ []) t.entries w → IsNotFalse t.entries w.second
    second-free (cl, at, hf, hs, apart, nf, inl nf2) = nf2
    second-free (cl, at, hf, hs, apart, nf, inr (high, rest)) =
        let P : ℕ → Type 0 = λ n. slice_get (clauses ++ clause ∷ []) n ≡ Some cl in
        let same : cl ≡ clause = same_Some cl clause (sym (subst P is at) ∙ get-new clauses clause) in
        let Q : List Lit → Type 0 = λ c. OthersFail t.entries c w.first in
        let rest' = subst Q same rest in
        elim (lit_cases l w.first) [
          | inl eq ↦ absurd (free-not-fails t.entries m fm (rest' m hm (λ e. ne (e ∙ sym eq.0))))
          | inr other ↦ absurd (free-not-fails t.entries l fl (rest' l hl other.0))
        ]

pub search-unit : (clauses : List (List Lit)) (clause : List Lit) (list : List Watch) (t u : Course) (l : Lit) (id : ℕ) → IsSearch clauses list t → t.level ≡ 0 → Contains clause l → HasNoValue t.entries l.var
    → OthersFail t.entries clause l → InVars t.vars l → id ≡ length clauses → u ≡ extended t t.level (record { lit = l; level = t.level; reason = Some id }) → IsSearch (clauses ++ clause ∷ []) list u
search-unit clauses clause list t u l id s z has free rest there id-is is = subst (IsSearch (clauses ++ clause ∷ []) list) (sym is) (record {
  course = course';
  reasons = reasons-implied (clauses ++ clause ∷ []) t.entries e id (reasons-more clauses clause t.entries s.reasons) refl (clause, at-id, has, rest);
  watches = clauses-more clauses clause list s.watches;
  in_step = longer list t t.level e s.course.seen_in s.in_step;
  unseen = λ f c. all-zero f (drop-in t.seen (t.entries ++ e ∷ []) f c);
  known = known-with clauses clause list list t.entries (t.entries ++ e ∷ []) s.known (λ n c. c) (λ f c. Contains-append_left t.entries (e ∷ []) f c) (inr (l, e, has, Contains-push t.entries e, refl, z));
})
  where
    e : Entry
    e = record { lit = l; level = t.level; reason = Some id }

    course' : IsCourse (extended t t.level (record { lit = l; level = t.level; reason = Some id }))
    course' = IsCourse-push t (record { lit = l; level = t.level; reason = Some id }) s.course there free refl

    at-id : slice_get (clauses ++ clause ∷ []) id ≡ Some clause
    at-id = let P : ℕ → Type 0 = λ n. slice_get (clauses ++ clause ∷ []) n ≡ Some clause in subst P (sym id-is) (get-new clauses clause)

    drop-in : (n : ℕ) (es : List Entry) (f : Entry) → Contains (drop n es) f → Contains es f
    drop-in zero es f c = c
    drop-in (suc n) [] f c = c
    drop-in (suc n) (x ∷ xs) f c = Contains-tail x xs f (drop-in n xs f c)

    all-zero : (f : Entry) → Contains (t.entries ++ record { lit = l; level = t.level; reason = Some id } ∷ []) f → f.level ≡ t.level
    all-zero f c = (let le = level-at-most 0 (t.entries ++ record { lit = l; level = t.level; reason = Some id } ∷ []) t.level f course'.rises c in omega (arith, z, le))

-- the clause `id` was taken in, where those before it were
module _ (clauses : List (List Lit)) (id : ℕ) (clause : List Lit) (list : List Watch) (t : Course) (s : IsSearch (take id clauses) list t)
    (at : slice_get clauses id ≡ Some clause) (z : t.level ≡ 0) where
  len : id ≡ length (take id clauses)
  len = take-long clauses id (omega (arith, slice_get_within clauses id clause at))

  next : (xs : List Watch) (u : Course) → IsSearch (take id clauses ++ clause ∷ []) xs u → IsSearch (take (id + 1) clauses) xs u
  next xs u h =
      let more : suc id ≡ id + 1 = omega arith in
      subst (λ n. IsSearch (take n clauses) xs u) more (subst (λ cs. IsSearch cs xs u) (sym (take-next clauses id clause at)) h)

  pub ready-true : (l : Lit) → Contains clause l → Holds t.entries l → IsSearch (take (id + 1) clauses) list t
  ready-true l has h = next list t (search-true (take id clauses) clause list t s (true-zero t clause l s.course z has h))

  pub ready-wide : (w : Watch) (l m : Lit) → Contains clause l → Contains clause m → m ≢ l → HasNoValue t.entries l.var → HasNoValue t.entries m.var
      → w.clause ≡ id → IsWellChosen clauses t.entries w → IsSearch (take (id + 1) clauses) (list ++ w ∷ []) t
  ready-wide w l m hl hm ne fl fm is (cl, got, hf, hs, apart, nf, good) =
      let same : cl ≡ clause = same_Some cl clause (sym (subst (λ n. slice_get clauses n ≡ Some cl) is got) ∙ at) in
      let here : slice_get (take id clauses ++ clause ∷ []) w.clause ≡ Some cl =
      subst (λ n. slice_get (take id clauses ++ clause ∷ []) n ≡ Some cl) (sym (is ∙ len)) (get-new (take id clauses) clause ∙ ap (λ (x : List Lit). Some x) (sym same)) in
      next (list ++ w ∷ []) t (search-wide (take id clauses) clause list t w l m s hl hm ne fl fm (is ∙ len) (cl, here, hf, hs, apart, nf, good))

  pub ready-unit : (u : Course) (l : Lit) → Contains clause l → HasNoValue t.entries l.var → OthersFail t.entries clause l → InVars t.vars l
      → u ≡ extended t t.level (record { lit = l; level = t.level; reason = Some id }) → IsSearch (take (id + 1) clauses) list u
  ready-unit u l has free rest there is = next list u (search-unit (take id clauses) clause list t u l id s z has free rest there len is)

-- a clause that is false at level 0 refutes
pub false-refutes : (clauses : List (List Lit)) (n id : ℕ) (list : List Watch) (t : Course) → IsSearch (take n clauses) list t → t.level ≡ 0 → IsConflict clauses t.entries id → Follows clauses []
false-refutes clauses n id list t s z bad = trail-refuted clauses t id s.course z reasons bad
  where
    reasons : AreReasons clauses t.entries
    reasons k e r at q = (let f = s.reasons k e r at q in (f.0, get-take clauses n r f.0 f.1, f.2, f.3))
