-- Propagation keeps what holds of a search.
use Rattle.std.proofs.Common.{◌≡◌, ℕ, ◌≤◌, inl, inr, List, [], ◌∷◌, length, Option, Some, None, IfSome, ap, sym, ◌∙◌, subst, arith, length-append}
use Rattle.std.specs.List.{Contains}
use Rattle.std.proofs.lemmas.List.Elements.{Contains-push_cases, Contains-append_left}
use Rattle.clause_store.specs.declared.Lit.{Lit}
use Rattle.trail_core.specs.Course.{Entry, Course, IsCourse}
use Rattle.watch_lists.specs.Watching.{Watch, numbers, AreWatches, AreInStep, UnseenArePresent}
use Rattle.watch_lists.specs.Propagated.{Grows, Advances, IsConflict as IsWatchedConflict}
use Rattle.watch_lists.specs.Propagated.Grows.{none, more}
use Rattle.conflict_cut.specs.Cut.{AreReasons, IsConflict}
use Rattle.conflict_cut.proofs.GeneralReasons.{reasons-implied}
use Rattle.cdcl_core.specs.Search.{IsSearch}
use Rattle.cdcl_core.specs.Steps.{Spreads}

reasons-grown : (clauses : List (List Lit)) (ns : List ℕ) (level : ℕ) (es fs : List Entry) → Grows clauses ns level es fs → AreReasons clauses es → AreReasons clauses fs
reasons-grown clauses ns level es fs none h = h
reasons-grown clauses ns level es fs (more to e g w) h =
    reasons-implied clauses to e w.0 (reasons-grown clauses ns level es to g h) w.3 (w.1, w.2.1, w.5, w.6)

kept-grown : (clauses : List (List Lit)) (ns : List ℕ) (level : ℕ) (es fs : List Entry) → Grows clauses ns level es fs → (e : Entry) → Contains es e → Contains fs e
kept-grown clauses ns level es fs none e c = c
kept-grown clauses ns level es fs (more to f g w) e c = Contains-append_left to (f ∷ []) e (kept-grown clauses ns level es to g e c)

decided-grown : (clauses : List (List Lit)) (ns : List ℕ) (level : ℕ) (es fs : List Entry) → Grows clauses ns level es fs → (e : Entry) → Contains fs e → e.reason ≡ None → Contains es e
decided-grown clauses ns level es fs none e c n = c
decided-grown clauses ns level es fs (more to f g w) e c n = elim (Contains-push_cases to f e c) [
  | inl old ↦ decided-grown clauses ns level es to g e old n
  | inr new ↦ (let bad : Some w.0 ≡ None = sym w.3 ∙ ap (λ (x : Entry). x.reason) new ∙ n in cc)
]

longer-grown : (clauses : List (List Lit)) (ns : List ℕ) (level : ℕ) (es fs : List Entry) → Grows clauses ns level es fs → length es ≤ length fs
longer-grown clauses ns level es fs none = omega arith
longer-grown clauses ns level es fs (more to f g w) = omega (arith, longer-grown clauses ns level es to g, length-append to (f ∷ []))

pub spreads : (clauses : List (List Lit)) (ns : List ℕ) (t u : Course) → Advances clauses ns t u → Spreads t u
spreads clauses ns t u a = record {
  vars = a.vars;
  level = a.level;
  decided = decided-grown clauses ns t.level t.entries u.entries a.grows;
  kept = kept-grown clauses ns t.level t.entries u.entries a.grows;
  longer = longer-grown clauses ns t.level t.entries u.entries a.grows;
}

pub search-spread : (clauses : List (List Lit)) (list list' : List Watch) (t u : Course) → IsSearch clauses list t → Advances clauses (numbers list) t u → IsCourse u
    → numbers list' ≡ numbers list → AreWatches clauses list' → AreInStep list' u → UnseenArePresent u → IsSearch clauses list' u
search-spread clauses list list' t u s a course same watches step unseen = record {
  course = course;
  reasons = reasons-grown clauses (numbers list) t.level t.entries u.entries a.grows s.reasons;
  watches = watches;
  in_step = step;
  unseen = unseen;
  known = λ id c at. elim (s.known id c at) [
    | inl attached ↦ (let P : List ℕ → Type 0 = λ ns. Contains ns id in inl (subst P (sym same) attached))
    | inr z ↦ inr (z.0, z.1, z.2, kept-grown clauses (numbers list) t.level t.entries u.entries a.grows z.1 z.3, z.4, z.5)
  ];
}

pub conflict-of : (o : Option ℕ) (clauses : List (List Lit)) (ns : List ℕ) (es : List Entry) → IfSome o (λ id. IsWatchedConflict clauses ns es id) → IfSome o (λ id. IsConflict clauses es id)
conflict-of None clauses ns es h = tt
conflict-of (Some id) clauses ns es (clause, att, fail) = (clause, att.1, fail)
