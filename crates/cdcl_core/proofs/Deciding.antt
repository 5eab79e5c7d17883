-- Decisions, and which of them are assumptions.
use Rattle.std.proofs.Common.{◌≡◌, ℕ, ◌+◌, ◌<◌, ◌≤◌, inl, inr, min, List, [], ◌∷◌, ◌++◌, length, slice_get, Some, None, refl, ap, sym, subst, arith}
use Rattle.std.specs.List.{Contains}
use Rattle.std.proofs.lemmas.List.Elements.{Contains-push_cases, Contains-append_left}
use Rattle.clause_store.specs.declared.Lit.{Lit}
use Rattle.clause_store.specs.Clauses.{InVars}
use Rattle.trail_core.specs.Course.{Entry, Course, IsCourse, HasNoValue, Holds, decided}
use Rattle.trail_core.proofs.GeneralTrails.{level-at-most, decided-above, IsCourse-push}
use Rattle.trail_core.proofs.GeneralPlaces.{get-contained}
use Rattle.watch_lists.specs.Watching.{Watch}
use Rattle.watch_lists.proofs.GeneralWatches.{longer}
use Rattle.conflict_cut.proofs.GeneralReasons.{reasons-decided}
use Rattle.cdcl_core.specs.declared.descent.Footing.{Footing}
use Rattle.cdcl_core.specs.Search.{IsSearch}
use Rattle.cdcl_core.specs.Steps.{Spreads, JumpsBack, AreMet, IsFooting}
use Rattle.cdcl_core.proofs.Learning.{drop-one}

abbrev pub decision : Course → Lit → Entry
decision t l = record { lit = l; level = t.level + 1; reason = None }

course-decided : (t : Course) (l : Lit) → IsCourse t → InVars t.vars l → HasNoValue t.entries l.var → IsCourse (decided t l)
course-decided t l k there free = IsCourse-push t (decision t l) k there free refl

pub search-decided : (clauses : List (List Lit)) (list : List Watch) (t u : Course) (l : Lit) → IsSearch clauses list t → t.seen ≡ length t.entries → InVars t.vars l → HasNoValue t.entries l.var → u ≡ decided t l → IsSearch clauses list u
search-decided clauses list t u l s seen there free is = subst (IsSearch clauses list) (sym is) (record {
  course = course-decided t l s.course there free;
  reasons = reasons-decided clauses t.entries (decision t l) s.reasons refl;
  watches = s.watches;
  in_step = longer list t (t.level + 1) (decision t l) s.course.seen_in s.in_step;
  unseen = λ e c. sym (ap (λ (x : Entry). x.level) (drop-one t.seen t.entries (decision t l) e (omega (arith, seen)) c));
  known = λ id c at. elim (s.known id c at) [
    | inl attached ↦ inl attached
    | inr z ↦ inr (z.0, z.1, z.2, Contains-append_left t.entries (decision t l ∷ []) z.1 z.3, z.4, z.5)
  ];
})

holds-more : (asm : List Lit) (es fs : List Entry) (n : ℕ) → ((e : Entry) → Contains es e → Contains fs e) → ((k : ℕ) (a : Lit) → k < n → slice_get asm k ≡ Some a → Holds es a)
    → (k : ℕ) (a : Lit) → k < n → slice_get asm k ≡ Some a → Holds fs a
holds-more asm es fs n sub h k a lt at = (let m = h k a lt at in (m.0, sub m.0 m.1, m.2))

pub footing-spread : (asm : List Lit) (t u : Course) (f : Footing) → IsFooting asm t f → Spreads t u → IsFooting asm u f
footing-spread asm t u f k s = record {
  in_range = omega (arith, k.in_range, s.level);
  decided = λ e c none le. k.decided e (s.decided e c none) none le;
  settled = λ lt a ha. (let m = k.settled (omega (arith, lt, s.level)) a ha in (m.0, s.kept m.0 m.1, m.2, m.3));
  within = k.within;
  met = holds-more asm t.entries u.entries f.met s.kept k.met;
}

pub footing-jumped : (asm : List Lit) (t u : Course) (f g : Footing) → IsFooting asm t f → JumpsBack t u → g.level ≡ min f.level u.level → g.met ≡ 0 → IsFooting asm u g
footing-jumped asm t u f g k j is none' = record {
  in_range = omega (arith, is);
  decided = λ e c none le. k.decided e (j.decided e c none) none (omega (arith, le, is));
  settled = λ lt a ha. (let m = k.settled (omega (arith, lt, j.lower, is)) a ha in (m.0, j.kept m.0 m.1 (omega (arith, lt, m.3, is)), m.2, omega (arith, lt, m.3, is)));
  within = omega (arith, none');
  met = λ i a lt at. absurd (omega (arith, lt, none'));
}

-- so many assumptions are true
pub footing-met : (asm : List Lit) (t : Course) (f g : Footing) → IsFooting asm t f → g.level ≡ f.level → g.met ≤ length asm
    → ((k : ℕ) (a : Lit) → k < g.met → slice_get asm k ≡ Some a → Holds t.entries a) → IsFooting asm t g
footing-met asm t f g k is within met = record {
  in_range = omega (arith, k.in_range, is);
  decided = λ e c none le. k.decided e c none (omega (arith, le, is));
  settled = λ lt a ha. (let m = k.settled (omega (arith, lt, is)) a ha in (m.0, m.1, m.2, omega (arith, m.3, is)));
  within = within;
  met = met;
}

pub footing-assumed : (asm : List Lit) (t u : Course) (f g : Footing) (l : Lit) → IsCourse t → IsFooting asm t f → f.level ≡ t.level → Contains asm l → u ≡ decided t l
    → g.level ≡ u.level → g.met ≡ f.met → IsFooting asm u g
footing-assumed asm t u f g l course k is has u-is level met = record {
  in_range = omega (arith, level);
  decided = λ e c none le. by e (subst (λ (x : Course). Contains x.entries e) u-is c) none;
  settled = λ lt a ha. absurd (omega (arith, lt, level));
  within = omega (arith, k.within, met);
  met = holds-more asm t.entries u.entries g.met (λ e c. subst (λ (x : Course). Contains x.entries e) (sym u-is) (Contains-append_left t.entries (decision t l ∷ []) e c))
      (λ i a lt at. k.met i a (omega (arith, lt, met)) at);
}
  where
    by : (e : Entry) → Contains (t.entries ++ decision t l ∷ []) e → e.reason ≡ None → Contains asm e.lit
    by e c none = elim (Contains-push_cases t.entries (decision t l) e c) [
      | inl old ↦ k.decided e old none (omega (arith, is, level-at-most 0 t.entries t.level e course.rises old))
      | inr new ↦ (let Q : Entry → Type 0 = λ x. Contains asm x.lit in subst Q new has)
    ]

pub footing-decided : (asm : List Lit) (t u : Course) (f : Footing) (l : Lit) → IsFooting asm t f → AreMet t.entries asm f.level → u ≡ decided t l → IsFooting asm u f
footing-decided asm t u f l k met u-is = (let P : Course → Type 0 = λ x. IsFooting asm x f in subst P (sym u-is) (record {
  in_range = omega (arith, k.in_range);
  decided = λ e c none le. elim (Contains-push_cases t.entries (decision t l) e c) [
    | inl old ↦ k.decided e old none le
    | inr new ↦ absurd (omega (arith, le, k.in_range, sym (ap (λ (x : Entry). x.level) new)))
  ];
  settled = λ lt a ha. (let m = met a ha in (m.0, Contains-append_left t.entries (decision t l ∷ []) m.0 m.1, m.2, m.3));
  within = k.within;
  met = holds-more asm t.entries (t.entries ++ decision t l ∷ []) f.met (λ e c. Contains-append_left t.entries (decision t l ∷ []) e c) k.met;
}))

pub met-holds : (asm : List Lit) (t : Course) (level : ℕ) → IsCourse t → level ≡ t.level → ((a : Lit) → Contains asm a → Holds t.entries a) → AreMet t.entries asm level
met-holds asm t level k is h a ha = (let m = h a ha in (m.0, m.1, m.2, omega (arith, is, level-at-most 0 t.entries t.level m.0 k.rises m.1)))

pub footing-start : (asm : List Lit) (t : Course) (f : Footing) → IsCourse t → t.level ≡ 0 → f.level ≡ 0 → f.met ≡ 0 → IsFooting asm t f
footing-start asm t f k z low none' = record {
  in_range = omega (arith, low);
  decided = λ e c none le. (let at = get-contained t.entries e c in absurd (omega (arith, le, low, decided-above 0 t.entries t.level at.0 e k.rises at.1 none)));
  settled = λ lt. absurd (omega (arith, lt, z));
  within = omega (arith, none');
  met = λ i a lt at. absurd (omega (arith, lt, none'));
}
