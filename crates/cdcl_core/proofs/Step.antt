-- One conflict above level 0.
use Rattle.std.proofs.Common.{◌≡◌, ◌≢◌, ℕ, ◌-◌, ◌<◌, ◌≤◌, ◌⊎◌, inl, inr, List, [], ◌∷◌, ◌++◌, length, Some, None, ap, sym, ◌∙◌, subst, arith}
use Rattle.std.specs.List.{All, Contains}
use Rattle.std.proofs.lemmas.List.Elements.{All-contains, Contains-push_cases, Contains-append_left}
use Rattle.clause_store.specs.declared.Lit.{Lit}
use Rattle.clause_store.specs.Clauses.{Formula, InVars}
use Rattle.clause_store.specs.Propagation.{Follows}
use Rattle.clause_store.proofs.GeneralLists.{Contains-nil}
use Rattle.clause_store.proofs.GeneralLiterals.{lit_cases}
use Rattle.trail_core.specs.Course.{Entry, Course, HasNoValue, up_to, extended, taken_back}
use Rattle.trail_core.specs.Standing.{OthersFail, IsUnit}
use Rattle.trail_core.proofs.GeneralTrails.{free-not-fails, to-up_to, from-up_to, HaveOnce-up_to}
use Rattle.watch_lists.specs.Watching.{Watching}
use Rattle.watch_lists.proofs.GeneralWatches.{back-seen-below}
use Rattle.conflict_cut.specs.Cut.{IsConflict, HasPresent, IsAsserting, FailsAt}
use Rattle.conflict_cut.proofs.GeneralReasons.{unit-after}
use Rattle.cdcl_core.specs.Search.{IsSearch, IsHooked, IsLesson, with_clause}
use Rattle.cdcl_core.specs.Steps.{JumpsBack}
use Rattle.cdcl_core.proofs.Below.{safe-below, new-below, has-present}
use Rattle.cdcl_core.proofs.Learning.{search-back, search-learned}

pub jump-back : (t u : Course) (b : ℕ) → b < t.level → u ≡ taken_back t b → JumpsBack t u
jump-back t u b lower is = subst (JumpsBack t) (sym is) (record {
  lower = lower;
  decided = λ e c none. (from-up_to b t.entries e c).0;
  kept = λ e c le. to-up_to b t.entries e c le;
})

pub jump-more : (t u v : Course) (l : Lit) (id : ℕ) → JumpsBack t u → v ≡ extended u u.level (record { lit = l; level = u.level; reason = Some id }) → JumpsBack t v
jump-more t u v l id j is = subst (JumpsBack t) (sym is) (record {
  lower = j.lower;
  decided = λ e c none. elim (Contains-push_cases u.entries (record { lit = l; level = u.level; reason = Some id }) e c) [
    | inl old ↦ j.decided e old none
    | inr new ↦ (let bad : Some id ≡ None = ap (λ (x : Entry). x.reason) new ∙ none in cc)
  ];
  kept = λ e c le. Contains-append_left u.entries (record { lit = l; level = u.level; reason = Some id } ∷ []) e (j.kept e c le);
})

module _ (f : Formula) (old : Watching) (t : Course) (lits cl : List Lit) (conflict b : ℕ)
    (s : IsSearch f.clauses old.list t) (one : 1 ≤ t.level) (bad : IsConflict f.clauses t.entries conflict)
    (asserting : HasPresent f.clauses t conflict → IsAsserting t lits b) (lower : b < t.level) (same : cl ≡ lits) where
  asserts : IsAsserting t cl b
  asserts =
      let P : List Lit → Type 0 = λ c. IsAsserting t c b in
      subst P (sym same) (asserting (has-present f.clauses old.list t conflict (t.level - 1) s (HaveOnce-up_to (t.level - 1) t.entries s.course.once) (omega (arith, one)) bad))

  pub unit-back : IsUnit (up_to b t.entries) cl
  unit-back = unit-after t cl b s.course lower asserts

  pub unit-at : (u : Course) → u ≡ taken_back t b → IsUnit u.entries cl
  unit-at u is = let P : Course → Type 0 = λ x. IsUnit x.entries cl in subst P (sym is) unit-back

  pub lesson : Follows f.clauses lits → IsLesson f.clauses cl
  lesson follows = (
    λ e. (let P : List Lit → Type 0 = λ c. Contains c unit-back.0 in Contains-nil unit-back.0 (subst P e unit-back.1)),
    subst (Follows f.clauses) (sym same) follows,
    new-below f.clauses (up_to b t.entries) cl (HaveOnce-up_to b t.entries s.course.once) (safe-below f.clauses old.list t b s lower) unit-back,
  )

  pub search-at : (u : Course) → u ≡ taken_back t b → IsSearch f.clauses old.list u
  search-at u is = subst (IsSearch f.clauses old.list) (sym is) (search-back f.clauses old.list t b s lower)

  is-unit : (l : Lit) → Contains cl l → HasNoValue (up_to b t.entries) l.var → l ≡ unit-back.0
  is-unit l has free = elim (lit_cases l unit-back.0) [
    | inl eq ↦ eq.0
    | inr apart ↦ absurd (free-not-fails (up_to b t.entries) l free (unit-back.3 l has apart.0))
  ]

  rest-fail : (l : Lit) → Contains cl l → HasNoValue (up_to b t.entries) l.var → OthersFail (up_to b t.entries) cl l
  rest-fail l has free m hm ne = unit-back.3 m hm (λ e. ne (e ∙ sym (is-unit l has free)))

  is-lit : (l : Lit) → Contains cl l → HasNoValue (up_to b t.entries) l.var → l ≡ asserts.lit
  is-lit l has free = elim (lit_cases l asserts.lit) [
    | inl eq ↦ eq.0
    | inr apart ↦
        let g = asserts.others.each l (has, apart.0) in
        absurd (free-not-fails (up_to b t.entries) l free (g.1.0, to-up_to b t.entries g.1.0 g.1.1 (omega (arith, g.1.3, g.3)), g.1.2))
  ]

  highest-at : (l : Lit) → Contains cl l → HasNoValue (up_to b t.entries) l.var → (b ≡ 0) ⊎ ((m : Lit) × Contains cl m × (m ≢ l) × FailsAt (up_to b t.entries) m b)
  highest-at l has free = elim asserts.others.one [
    | inl z ↦ inl z
    | inr (m, hm, (e, ce, qe, le)) ↦ inr (m, hm.0, λ q. hm.1 (q ∙ is-lit l has free), (e, to-up_to b t.entries e ce (omega (arith, le)), qe, le))
  ]

  pub search-after : (g : Formula) (new : Watching) (u v : Course) (l : Lit) (id : ℕ) → u ≡ taken_back t b → t.vars ≡ f.vars → All (InVars f.vars) lits
      → Contains cl l → HasNoValue u.entries l.var → id ≡ length f.clauses → g ≡ with_clause f cl → IsHooked g.clauses u.entries old new id cl
      → v ≡ extended u u.level (record { lit = l; level = u.level; reason = Some id }) → IsSearch g.clauses new.list v
  search-after g new u v l id u-is over named has free id-is g-is hook v-is =
      let F : Course → Type 0 = λ x. HasNoValue x.entries l.var in
      let free' : HasNoValue (up_to b t.entries) l.var = subst F u-is free in
      let H : Formula → Type 0 = λ h. IsHooked h.clauses u.entries old new id cl in
      let K : Course → Type 0 = λ x. IsHooked (f.clauses ++ cl ∷ []) x.entries old new id cl in
      let hook' : IsHooked (f.clauses ++ cl ∷ []) (up_to b t.entries) old new id cl = subst K u-is (subst H g-is hook) in
      let C : List Lit → Type 0 = λ c. Contains c l in
      let V : ℕ → Type 0 = λ n. InVars n l in
      let there : InVars t.vars l = subst V (sym over) (All-contains (InVars f.vars) lits l named (subst C same has)) in
      let done = search-learned f.clauses cl old new (taken_back t b) l id id-is (search-back f.clauses old.list t b s lower) (back-seen-below t b s.unseen lower)
      has free' (rest-fail l has free') there (highest-at l has free') hook' in
      let X : Course → Type 0 = λ x. IsSearch (f.clauses ++ cl ∷ []) new.list (extended x x.level (record { lit = l; level = x.level; reason = Some id })) in
      let Y : Formula → Type 0 = λ h. IsSearch h.clauses new.list v in
      subst Y (sym g-is) (subst (IsSearch (f.clauses ++ cl ∷ []) new.list) (sym v-is) (subst X (sym u-is) done))
