-- General: what holds between the calls of propagation, kept by them, by decisions and by jumps back. These lemmas are on the
-- definitions alone, and other crates may cite them.
use Rattle.std.proofs.Common.{◌≡◌, ℕ, zero, suc, ◌+◌, ◌<◌, ◌≤◌, inl, inr, List, [], ◌∷◌, ◌++◌, length, drop, slice_get, Option, Some, None, IfSome, refl, ap, sym, ◌∙◌, subst, arith, length-append}
use Rattle.std.specs.List.{Contains}
use Rattle.std.proofs.lemmas.List.Elements.{Contains-push, Contains-push_cases, Contains-append_left}
use Rattle.clause_store.specs.declared.Lit.{Lit}
use Rattle.clause_store.specs.Clauses.{InVars}
use Rattle.clause_store.specs.Propagation.{IsClosed, HasNoConflict}
use Rattle.clause_store.proofs.GeneralLists.{Contains-nil, Contains-cons_cases, Contains-map, Contains-from_map}
use Rattle.clause_store.proofs.Bridges.{all_safe-closed}
use Rattle.trail_core.specs.Course.{Entry, Course, IsCourse, HasNoValue, HaveOnce, up_to, taken_back, decided}
use Rattle.trail_core.proofs.GeneralTrails.{IsCourse-push, HaveOnce-up_to, named-up_to, rises-up_to, to-up_to}
use Rattle.trail_core.proofs.GeneralPlaces.{get-contained}
use Rattle.watch_lists.specs.Watching.{Watch, numbers, AreWatches, AreInStep, UnseenArePresent}
use Rattle.watch_lists.specs.Propagated.{IsSafe, AreSafe, truths, Grows, Advances, IsConflict as IsWatchedConflict}
use Rattle.watch_lists.specs.Propagated.Grows.{none, more}
use Rattle.watch_lists.proofs.Closing.{safe-in-step}
use Rattle.watch_lists.proofs.GeneralWatches.{back, back-seen-below, longer, truths-consistent, safe-at}
use Rattle.conflict_cut.specs.Cut.{AreReasons, IsConflict}
use Rattle.conflict_cut.proofs.GeneralReasons.{reasons-back, reasons-implied, reasons-decided}
use Rattle.unit_closure.specs.Search.{IsTrueAtZero, IsKnown, IsSearch, Spreads}

pub zero-below : (level : ℕ) (es : List Entry) (clause : List Lit) → IsTrueAtZero es clause → IsTrueAtZero (up_to level es) clause
zero-below level es clause z = (z.0, z.1, z.2, to-up_to level es z.1 z.3 (omega (arith, z.5)), z.4, z.5)

-- what is known stays so among more clauses, watches and entries
pub known-more : (clauses all : List (List Lit)) (ns ms : List ℕ) (es fs : List Entry) (id : ℕ) (c : List Lit)
    → ((n : ℕ) (d : List Lit) → slice_get clauses n ≡ Some d → slice_get all n ≡ Some d) → ((n : ℕ) → Contains ns n → Contains ms n) → ((e : Entry) → Contains es e → Contains fs e)
    → IsKnown clauses ns es id c → IsKnown all ms fs id c
known-more clauses all ns ms es fs id c at within longer' (inl attached) = inl (within id attached)
known-more clauses all ns ms es fs id c at within longer' (inr (inl z)) = inr (inl (z.0, z.1, z.2, longer' z.1 z.3, z.4, z.5))
known-more clauses all ns ms es fs id c at within longer' (inr (inr (n, d, attached, got, sub))) = inr (inr (n, d, within n attached, at n d got, sub))

-- a clause that has all literals of a known one
pub known-wider : (clauses : List (List Lit)) (ns : List ℕ) (es : List Entry) (id n : ℕ) (d c : List Lit) → slice_get clauses id ≡ Some d → ((l : Lit) → Contains d l → Contains c l)
    → IsKnown clauses ns es id d → IsKnown clauses ns es n c
known-wider clauses ns es id n d c at sub (inl attached) = inr (inr (id, d, attached, at, sub))
known-wider clauses ns es id n d c at sub (inr (inl z)) = inr (inl (z.0, z.1, sub z.0 z.2, z.3, z.4, z.5))
known-wider clauses ns es id n d c at sub (inr (inr (k, e, attached, got, sub'))) = inr (inr (k, e, attached, got, λ l h. sub l (sub' l h)))

-- and so it is safe with it
safe-wider : (es : List Entry) (d c : List Lit) → ((l : Lit) → Contains d l → Contains c l) → IsSafe es d → IsSafe es c
safe-wider es d c sub (inl (l, has, holds)) = inl (l, sub l has, holds)
safe-wider es d c sub (inr (l, m, hl, hm, ne, fl, fm)) = inr (l, m, sub l hl, sub m hm, ne, fl, fm)

-- where the attached clauses are safe, all known ones are
all-safe : (clauses : List (List Lit)) (ns : List ℕ) (es : List Entry) → AreSafe clauses ns es → ((id : ℕ) (c : List Lit) → slice_get clauses id ≡ Some c → IsKnown clauses ns es id c) → (c : List Lit) → Contains clauses c → IsSafe es c
all-safe clauses ns es safe known c has = (let at = get-contained clauses c has in elim (known at.0 c at.1) [
  | inl attached ↦ safe at.0 c (attached, at.1)
  | inr (inl z) ↦ inl (z.0, z.2, (z.1, z.3, z.4))
  | inr (inr (id, d, attached, got, sub)) ↦ safe-wider es d c sub (safe id d (attached, got))
])

pub safe-now : (clauses : List (List Lit)) (list : List Watch) (t : Course) → IsSearch clauses list t → t.seen ≡ length t.entries → (c : List Lit) → Contains clauses c → IsSafe t.entries c
safe-now clauses list t s seen = all-safe clauses (numbers list) t.entries (safe-in-step clauses t list s.watches s.in_step seen) s.known

-- safe clauses are closed, and none is false
pub closed-all : (clauses : List (List Lit)) (es : List Entry) → HaveOnce es → ((c : List Lit) → Contains clauses c → IsSafe es c) → IsClosed clauses (truths es) × HasNoConflict clauses (truths es)
closed-all clauses es once safe = all_safe-closed clauses (truths es) (truths-consistent es once) (λ c h. safe-at es c (safe c h))

pub course-back : (t : Course) (level : ℕ) → IsCourse t → level ≤ t.level → IsCourse (taken_back t level)
course-back t level k le = record {
  named = named-up_to t.vars level t.entries k.named;
  once = HaveOnce-up_to level t.entries k.once;
  rises = rises-up_to 0 t.entries t.level level k.rises (omega arith) le;
  seen_in = omega arith;
}

drop-all : (n : ℕ) (es : List Entry) (e : Entry) → length es ≤ n → Contains (drop n es) e → ⊥
drop-all zero [] e le c = Contains-nil e c
drop-all (suc n) [] e le c = Contains-nil e c
drop-all zero (x ∷ xs) e le c = absurd (omega (arith, le))
drop-all (suc n) (x ∷ xs) e le c = drop-all n xs e (omega (arith, le)) c

pub drop-one : (n : ℕ) (es : List Entry) (x e : Entry) → length es ≤ n → Contains (drop n (es ++ x ∷ [])) e → x ≡ e
drop-one zero [] x e le c = elim (Contains-cons_cases x [] e c) [ inl same ↦ same | inr later ↦ absurd (Contains-nil e later) ]
drop-one (suc n) [] x e le c = absurd (drop-all n [] e (omega arith) c)
drop-one zero (y ∷ ys) x e le c = absurd (omega (arith, le))
drop-one (suc n) (y ∷ ys) x e le c = drop-one n ys x e (omega (arith, le)) c

pub search-back : (clauses : List (List Lit)) (list : List Watch) (t : Course) (level : ℕ) → IsSearch clauses list t → level < t.level → IsSearch clauses list (taken_back t level)
search-back clauses list t level s lt = record {
  course = course-back t level s.course (omega (arith, lt));
  reasons = reasons-back clauses t level s.course s.reasons;
  watches = s.watches;
  in_step = back list t level s.course s.in_step;
  unseen = λ e c. absurd (drop-all (taken_back t level).seen (up_to level t.entries) e (omega (arith, back-seen-below t level s.unseen lt)) c);
  known = λ id c at. elim (s.known id c at) [
    | inl attached ↦ inl attached
    | inr (inl z) ↦ inr (inl (zero-below level t.entries c z))
    | inr (inr covered) ↦ inr (inr covered)
  ];
}

pub numbers-more : (list : List Watch) (w : Watch) (id : ℕ) → Contains (numbers list) id → Contains (numbers (list ++ w ∷ [])) id
numbers-more list w id c =
    let f = Contains-from_map (λ (x : Watch). x.clause) list id c in
    let P : ℕ → Type 0 = λ n. Contains (numbers (list ++ w ∷ [])) n in
    subst P f.2 (Contains-map (λ (x : Watch). x.clause) (list ++ w ∷ []) f.0 (Contains-append_left list (w ∷ []) f.0 f.1))

pub numbers-new : (list : List Watch) (w : Watch) (id : ℕ) → w.clause ≡ id → Contains (numbers (list ++ w ∷ [])) id
numbers-new list w id is =
    let P : ℕ → Type 0 = λ n. Contains (numbers (list ++ w ∷ [])) n in
    subst P is (Contains-map (λ (x : Watch). x.clause) (list ++ w ∷ []) w (Contains-push list w))

reasons-grown : (clauses : List (List Lit)) (ns : List ℕ) (level : ℕ) (es fs : List Entry) → Grows clauses ns level es fs → AreReasons clauses es → AreReasons clauses fs
reasons-grown clauses ns level es fs none h = h
reasons-grown clauses ns level es fs (more to e g w) h =
    reasons-implied clauses to e w.0 (reasons-grown clauses ns level es to g h) w.3 (w.1, w.2.1, w.5, w.6)

kept-grown : (clauses : List (List Lit)) (ns : List ℕ) (level : ℕ) (es fs : List Entry) → Grows clauses ns level es fs → (e : Entry) → Contains es e → Contains fs e
kept-grown clauses ns level es fs none e c = c
kept-grown clauses ns level es fs (more to f g w) e c = Contains-append_left to (f ∷ []) e (kept-grown clauses ns level es to g e c)

decided-grown : (clauses : List (List Lit)) (ns : List ℕ) (level : ℕ) (es fs : List Entry) → Grows clauses ns level es fs → (e : Entry) → Contains fs e → e.reason ≡ None → Contains es e
decided-grown clauses ns level es fs none e c n = c
decided-grown clauses ns level es fs (more to f g w) e c n = elim (Contains-push_cases to f e c) [
  | inl old ↦ decided-grown clauses ns level es to g e old n
  | inr new ↦ (let bad : Some w.0 ≡ None = sym w.3 ∙ ap (λ (x : Entry). x.reason) new ∙ n in cc)
]

longer-grown : (clauses : List (List Lit)) (ns : List ℕ) (level : ℕ) (es fs : List Entry) → Grows clauses ns level es fs → length es ≤ length fs
longer-grown clauses ns level es fs none = omega arith
longer-grown clauses ns level es fs (more to f g w) = omega (arith, longer-grown clauses ns level es to g, length-append to (f ∷ []))

pub spreads : (clauses : List (List Lit)) (ns : List ℕ) (t u : Course) → Advances clauses ns t u → Spreads t u
spreads clauses ns t u a = record {
  vars = a.vars;
  level = a.level;
  decided = decided-grown clauses ns t.level t.entries u.entries a.grows;
  kept = kept-grown clauses ns t.level t.entries u.entries a.grows;
  longer = longer-grown clauses ns t.level t.entries u.entries a.grows;
}

pub search-spread : (clauses : List (List Lit)) (list list' : List Watch) (t u : Course) → IsSearch clauses list t → Advances clauses (numbers list) t u → IsCourse u
    → numbers list' ≡ numbers list → AreWatches clauses list' → AreInStep list' u → UnseenArePresent u → IsSearch clauses list' u
search-spread clauses list list' t u s a course same watches step unseen = record {
  course = course;
  reasons = reasons-grown clauses (numbers list) t.level t.entries u.entries a.grows s.reasons;
  watches = watches;
  in_step = step;
  unseen = unseen;
  known = λ id c at.
      let P : ℕ → List ℕ → Type 0 = λ n ns. Contains ns n in
      known-more clauses clauses (numbers list) (numbers list') t.entries u.entries id c (λ n d got. got) (λ n h. subst (P n) (sym same) h)
      (kept-grown clauses (numbers list) t.level t.entries u.entries a.grows) (s.known id c at);
}

pub conflict-of : (o : Option ℕ) (clauses : List (List Lit)) (ns : List ℕ) (es : List Entry) → IfSome o (λ id. IsWatchedConflict clauses ns es id) → IfSome o (λ id. IsConflict clauses es id)
conflict-of None clauses ns es h = tt
conflict-of (Some id) clauses ns es (clause, att, fail) = (clause, att.1, fail)

abbrev pub decision : Course → Lit → Entry
decision t l = record { lit = l; level = t.level + 1; reason = None }

course-decided : (t : Course) (l : Lit) → IsCourse t → InVars t.vars l → HasNoValue t.entries l.var → IsCourse (decided t l)
course-decided t l k there free = IsCourse-push t (decision t l) k there free refl

pub search-decided : (clauses : List (List Lit)) (list : List Watch) (t u : Course) (l : Lit) → IsSearch clauses list t → t.seen ≡ length t.entries → InVars t.vars l → HasNoValue t.entries l.var → u ≡ decided t l → IsSearch clauses list u
search-decided clauses list t u l s seen there free is = subst (IsSearch clauses list) (sym is) (record {
  course = course-decided t l s.course there free;
  reasons = reasons-decided clauses t.entries (decision t l) s.reasons refl;
  watches = s.watches;
  in_step = longer list t (t.level + 1) (decision t l) s.course.seen_in s.in_step;
  unseen = λ e c. sym (ap (λ (x : Entry). x.level) (drop-one t.seen t.entries (decision t l) e (omega (arith, seen)) c));
  known = λ id c at.
      known-more clauses clauses (numbers list) (numbers list) t.entries (t.entries ++ decision t l ∷ []) id c (λ n d got. got) (λ n h. h)
      (λ e h. Contains-append_left t.entries (decision t l ∷ []) e h) (s.known id c at);
})

-- where all is gone through, the true literals are closed under the clauses, and none is false
pub search-closed : (clauses : List (List Lit)) (list : List Watch) (t : Course) → IsSearch clauses list t → t.seen ≡ length t.entries
    → IsClosed clauses (truths t.entries) × HasNoConflict clauses (truths t.entries)
search-closed clauses list t s seen = closed-all clauses t.entries s.course.once (safe-now clauses list t s seen)
