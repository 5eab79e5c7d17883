-- Jumping back, and implying the literal of a learned clause.
use Rattle.std.proofs.Common.{◌≡◌, ◌≢◌, ℕ, zero, suc, ◌<◌, ◌≤◌, ◌⊎◌, inl, inr, List, [], ◌∷◌, ◌++◌, length, drop, slice_get, Some, refl, ap, sym, ◌∙◌, subst, arith}
use Rattle.std.specs.List.{Contains}
use Rattle.std.proofs.lemmas.Option.{same_Some}
use Rattle.std.proofs.lemmas.List.Elements.{Contains-push, Contains-append_left}
use Rattle.clause_store.specs.declared.Lit.{Lit}
use Rattle.clause_store.specs.Clauses.{negated, InVars}
use Rattle.clause_store.proofs.GeneralLists.{Contains-nil, Contains-head, Contains-cons_cases, Contains-map, Contains-from_map}
use Rattle.clause_store.proofs.GeneralLiterals.{lit_cases}
use Rattle.trail_core.specs.Course.{Entry, Course, IsCourse, HasNoValue, up_to, extended, taken_back}
use Rattle.trail_core.specs.Standing.{OthersFail}
use Rattle.trail_core.proofs.GeneralTrails.{IsCourse-push, HaveOnce-up_to, named-up_to, rises-up_to}
use Rattle.trail_core.proofs.GeneralPlaces.{get-more-cases, get-new}
use Rattle.watch_lists.specs.Watching.{Watch, Watching, numbers, AreWatches, AreInStep, IsNotFalse, IsHighest, IsWellChosen}
use Rattle.watch_lists.proofs.GeneralWatches.{back, back-seen-below, longer, others, later, watches-more, clauses-more}
use Rattle.conflict_cut.specs.Cut.{FailsAt}
use Rattle.conflict_cut.proofs.GeneralReasons.{reasons-back, reasons-more, reasons-implied}
use Rattle.cdcl_core.specs.Search.{IsTrueAtZero, IsSearch, IsHooked}
use Rattle.cdcl_core.proofs.Below.{zero-below}

pub course-back : (t : Course) (level : ℕ) → IsCourse t → level ≤ t.level → IsCourse (taken_back t level)
course-back t level k le = record {
  named = named-up_to t.vars level t.entries k.named;
  once = HaveOnce-up_to level t.entries k.once;
  rises = rises-up_to 0 t.entries t.level level k.rises (omega arith) le;
  seen_in = omega arith;
}

drop-all : (n : ℕ) (es : List Entry) (e : Entry) → length es ≤ n → Contains (drop n es) e → ⊥
drop-all zero [] e le c = Contains-nil e c
drop-all (suc n) [] e le c = Contains-nil e c
drop-all zero (x ∷ xs) e le c = absurd (omega (arith, le))
drop-all (suc n) (x ∷ xs) e le c = drop-all n xs e (omega (arith, le)) c

pub drop-one : (n : ℕ) (es : List Entry) (x e : Entry) → length es ≤ n → Contains (drop n (es ++ x ∷ [])) e → x ≡ e
drop-one zero [] x e le c = elim (Contains-cons_cases x [] e c) [ inl same ↦ same | inr none ↦ absurd (Contains-nil e none) ]
drop-one (suc n) [] x e le c = absurd (drop-all n [] e (omega arith) c)
drop-one zero (y ∷ ys) x e le c = absurd (omega (arith, le))
drop-one (suc n) (y ∷ ys) x e le c = drop-one n ys x e (omega (arith, le)) c

pub search-back : (clauses : List (List Lit)) (list : List Watch) (t : Course) (level : ℕ) → IsSearch clauses list t → level < t.level → IsSearch clauses list (taken_back t level)
search-back clauses list t level s lt = record {
  course = course-back t level s.course (omega (arith, lt));
  reasons = reasons-back clauses t level s.course s.reasons;
  watches = s.watches;
  in_step = back list t level s.course s.in_step;
  unseen = λ e c. absurd (drop-all (taken_back t level).seen (up_to level t.entries) e (omega (arith, back-seen-below t level s.unseen lt)) c);
  known = λ id c at. elim (s.known id c at) [
    | inl attached ↦ inl attached
    | inr z ↦ inr (zero-below level t.entries c z)
  ];
}

pub numbers-more : (list : List Watch) (w : Watch) (id : ℕ) → Contains (numbers list) id → Contains (numbers (list ++ w ∷ [])) id
numbers-more list w id c =
    let f = Contains-from_map (λ (x : Watch). x.clause) list id c in
    let P : ℕ → Type 0 = λ n. Contains (numbers (list ++ w ∷ [])) n in
    subst P f.2 (Contains-map (λ (x : Watch). x.clause) (list ++ w ∷ []) f.0 (Contains-append_left list (w ∷ []) f.0 f.1))

pub numbers-new : (list : List Watch) (w : Watch) (id : ℕ) → w.clause ≡ id → Contains (numbers (list ++ w ∷ [])) id
numbers-new list w id is =
    let P : ℕ → Type 0 = λ n. Contains (numbers (list ++ w ∷ [])) n in
    subst P is (Contains-map (λ (x : Watch). x.clause) (list ++ w ∷ []) w (Contains-push list w))

-- the literal of a unit clause that is new is implied; all was seen before
module _ (clauses : List (List Lit)) (clause : List Lit) (old new : Watching) (t : Course) (l : Lit) (id : ℕ) (id-is : id ≡ length clauses)
    (s : IsSearch clauses old.list t) (seen : t.seen ≡ length t.entries)
    (has : Contains clause l) (free : HasNoValue t.entries l.var) (rest : OthersFail t.entries clause l) (there : InVars t.vars l)
    (top : (t.level ≡ 0) ⊎ ((m : Lit) × Contains clause m × (m ≢ l) × FailsAt t.entries m t.level))
    (hook : IsHooked (clauses ++ clause ∷ []) t.entries old new id clause) where
  all : List (List Lit)
  all = clauses ++ clause ∷ []

  entry : Entry
  entry = record { lit = l; level = t.level; reason = Some id }

  after : Course
  after = extended t t.level (record { lit = l; level = t.level; reason = Some id })

  at-id : slice_get (clauses ++ clause ∷ []) id ≡ Some clause
  at-id = let P : ℕ → Type 0 = λ n. slice_get (clauses ++ clause ∷ []) n ≡ Some clause in subst P (sym id-is) (get-new clauses clause)

  course-after : IsCourse (extended t t.level (record { lit = l; level = t.level; reason = Some id }))
  course-after = IsCourse-push t (record { lit = l; level = t.level; reason = Some id }) s.course there free refl

  list-step : AreInStep old.list (extended t t.level (record { lit = l; level = t.level; reason = Some id }))
  list-step = longer old.list t t.level (record { lit = l; level = t.level; reason = Some id }) s.course.seen_in s.in_step

  -- the new watch
  first-is : (w : Watch) → Contains clause w.first → IsNotFalse t.entries w.first → w.first ≡ l
  first-is w hf nf = elim (lit_cases w.first l) [ inl same ↦ same.0 | inr apart ↦ absurd (nf (rest w.first hf apart.0)) ]

  low-enough : (w : Watch) (f : Entry) → Contains t.entries f → f.lit ≡ negated w.second → IsHighest t.entries clause w.second → t.level ≤ f.level
  low-enough w f cf qf high = elim top [
    | inl z ↦ omega (arith, z)
    | inr m ↦ omega (arith, high m.0 m.1 m.3.0 f m.3.1 m.3.2 cf qf, m.3.3)
  ]

  watch-step : (w : Watch) → w.clause ≡ id → IsWellChosen (clauses ++ clause ∷ []) t.entries w → AreInStep (w ∷ []) (extended t t.level (record { lit = l; level = t.level; reason = Some id }))
  watch-step w is (cl, at, hf, hs, ne, nf, good) =
      let at' : slice_get (clauses ++ clause ∷ []) id ≡ Some cl = (let P : ℕ → Type 0 = λ n. slice_get (clauses ++ clause ∷ []) n ≡ Some cl in subst P is at) in
      let same : cl ≡ clause = same_Some cl clause (sym at' ∙ at-id) in
      let P : List Lit → Type 0 = λ k. Contains k w.first × Contains k w.second × (IsNotFalse t.entries w.second ⊎ (IsHighest t.entries k w.second × OthersFail t.entries k w.first)) in
      let h = subst P same (hf, hs, good) in
      let f-is = first-is w h.0 nf in
      let f = rest w.second h.1 (λ e. ne (f-is ∙ sym e)) in
      let high : IsHighest t.entries clause w.second = elim h.2 [ inl nf2 ↦ absurd (nf2 f) | inr hi ↦ hi.0 ] in
      later (extended t t.level (record { lit = l; level = t.level; reason = Some id })) w f.0 (record { lit = l; level = t.level; reason = Some id }) course-after
      (Contains-push t.entries (record { lit = l; level = t.level; reason = Some id })) (sym f-is)
      (Contains-append_left t.entries (record { lit = l; level = t.level; reason = Some id } ∷ []) f.0 f.1) f.2
      (low-enough w f.0 f.1 f.2 high)

  known-old : (xs : List Watch) → ((n : ℕ) → Contains (numbers old.list) n → Contains (numbers xs) n) → (n : ℕ) (c : List Lit) → slice_get clauses n ≡ Some c
      → Contains (numbers xs) n ⊎ IsTrueAtZero (t.entries ++ record { lit = l; level = t.level; reason = Some id } ∷ []) c
  known-old xs more n c at = elim (s.known n c at) [
    | inl attached ↦ inl (more n attached)
    | inr z ↦ inr (z.0, z.1, z.2, Contains-append_left t.entries (record { lit = l; level = t.level; reason = Some id } ∷ []) z.1 z.3, z.4, z.5)
  ]

  known-all : (xs : List Watch) → ((n : ℕ) → Contains (numbers old.list) n → Contains (numbers xs) n)
      → Contains (numbers xs) id ⊎ IsTrueAtZero (t.entries ++ record { lit = l; level = t.level; reason = Some id } ∷ []) clause
      → (n : ℕ) (c : List Lit) → slice_get (clauses ++ clause ∷ []) n ≡ Some c
      → Contains (numbers xs) n ⊎ IsTrueAtZero (t.entries ++ record { lit = l; level = t.level; reason = Some id } ∷ []) c
  known-all xs more last n c at = elim (get-more-cases clauses clause n c at) [
    | inl was ↦ known-old xs more n c was
    | inr now ↦
        let P : ℕ → List Lit → Type 0 = λ k d. Contains (numbers xs) k ⊎ IsTrueAtZero (t.entries ++ record { lit = l; level = t.level; reason = Some id } ∷ []) d in
        let Q : ℕ → Type 0 = λ k. P k c in
        subst Q (id-is ∙ sym now.0) (subst (P id) (sym now.1) last)
  ]

  search-with : (xs : List Watch) → AreWatches (clauses ++ clause ∷ []) xs → AreInStep xs (extended t t.level (record { lit = l; level = t.level; reason = Some id }))
      → ((n : ℕ) → Contains (numbers old.list) n → Contains (numbers xs) n)
      → Contains (numbers xs) id ⊎ IsTrueAtZero (t.entries ++ record { lit = l; level = t.level; reason = Some id } ∷ []) clause
      → IsSearch (clauses ++ clause ∷ []) xs (extended t t.level (record { lit = l; level = t.level; reason = Some id }))
  search-with xs watches step more last = record {
    course = course-after;
    reasons = reasons-implied (clauses ++ clause ∷ []) t.entries (record { lit = l; level = t.level; reason = Some id }) id (reasons-more clauses clause t.entries s.reasons) refl (clause, at-id, has, rest);
    watches = watches;
    in_step = step;
    unseen = λ e c. sym (ap (λ (x : Entry). x.level) (drop-one t.seen t.entries (record { lit = l; level = t.level; reason = Some id }) e (omega (arith, seen)) c));
    known = known-all xs more last;
  }

  pub search-learned : IsSearch (clauses ++ clause ∷ []) new.list (extended t t.level (record { lit = l; level = t.level; reason = Some id }))
  search-learned = elim hook [
    | inl (w, is, at, good) ↦
        let P : Watching → Type 0 = λ v. IsSearch (clauses ++ clause ∷ []) v.list (extended t t.level (record { lit = l; level = t.level; reason = Some id })) in
        let g = watch-step w at good w (Contains-head w []) in
        subst P (sym is) (search-with (old.list ++ w ∷ [])
        (watches-more (clauses ++ clause ∷ []) t.entries old.list w (clauses-more clauses clause old.list s.watches) good)
        (others old.list w (extended t t.level (record { lit = l; level = t.level; reason = Some id })) list-step g.0 g.1)
        (λ n c. numbers-more old.list w n c)
        (inl (numbers-new old.list w id at)))
    | inr (is, one) ↦
        let P : Watching → Type 0 = λ v. IsSearch (clauses ++ clause ∷ []) v.list (extended t t.level (record { lit = l; level = t.level; reason = Some id })) in
        let zero' : t.level ≡ 0 = elim top [ inl z ↦ z | inr m ↦ absurd (m.2 (one m.0 l m.1 has)) ] in
        subst P (sym is) (search-with old.list (clauses-more clauses clause old.list s.watches) list-step (λ n c. c)
        (inr (l, record { lit = l; level = t.level; reason = Some id }, has, Contains-push t.entries (record { lit = l; level = t.level; reason = Some id }), refl, zero')))
  ]
