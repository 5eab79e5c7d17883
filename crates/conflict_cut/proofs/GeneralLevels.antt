-- General: what the literals of a trail imply. These lemmas are on the definitions alone, and other crates may cite them.
use Rattle.std.proofs.Common.{◌≡◌, ℕ, zero, suc, ◌+◌, ◌<◌, inl, inr, List, [], ◌∷◌, take, slice_get, Option, Some, None, refl, ap, subst, arith}
use Rattle.std.specs.List.{Contains}
use Rattle.clause_store.specs.declared.Lit.{Lit}
use Rattle.clause_store.specs.Propagation.{IsImplied, Conflicts, Follows}
use Rattle.clause_store.specs.Propagation.IsImplied.{forced}
use Rattle.clause_store.proofs.GeneralLists.{Contains-nil, Contains-cons_cases}
use Rattle.trail_core.specs.Course.{Entry, Course, IsCourse, Rises}
use Rattle.trail_core.proofs.GeneralTrails.{level-at-most, levels-along, decided-above}
use Rattle.conflict_cut.specs.Cut.{IsConflict, AreReasons}
use Rattle.trail_core.proofs.GeneralPlaces.{contains-get, get-contained}

pub take-get : {A : Type 0} (k : ℕ) (xs : List A) (x : A) → Contains (take k xs) x → (j : ℕ) × (j < k) × (slice_get xs j ≡ Some x)
take-get zero xs x h = absurd (Contains-nil x h)
take-get (suc k) [] x h = absurd (Contains-nil x h)
take-get (suc k) (y ∷ ys) x h = elim (Contains-cons_cases y (take k ys) x h) [
  | inl same ↦ (0, omega arith, ap (λ z. Some z) same)
  | inr later ↦ let r = take-get k ys x later in (suc r.0, (let lt = r.1 in omega (arith, lt)), r.2)
]

-- what is true from level 0 on is implied from any start
pub zero-implied : (clauses : List (List Lit)) (es : List Entry) (to : ℕ) (start : List Lit) → AreReasons clauses es → Rises 0 es to → (n k : ℕ) (e : Entry) → k < n → slice_get es k ≡ Some e → e.level ≡ 0 → IsImplied clauses start e.lit
zero-implied clauses es to start reasons rises zero k e lt at z = absurd (omega (arith, lt))
zero-implied clauses es to start reasons rises (suc n) k e lt at z = by-reason e.reason refl (λ j f. zero-implied clauses es to start reasons rises n j f)
  where
    by-reason : (o : Option ℕ) → e.reason ≡ o → ((j : ℕ) (f : Entry) → j < n → slice_get es j ≡ Some f → f.level ≡ 0 → IsImplied clauses start f.lit) → IsImplied clauses start e.lit
    by-reason None q rest = absurd (omega (arith, z, decided-above 0 es to k e rises at q))
    by-reason (Some id) q rest =
        let r = reasons k e id at q in
        forced r.0 e.lit (contains-get clauses id r.0 r.1) r.2
        (λ m hm ne.
        let f = r.3 m hm ne in
        let there = take-get k es f.0 f.1 in
        let low : f.0.level ≡ 0 = (let le = levels-along 0 es to there.0 k f.0 e rises (omega (arith, there.1)) there.2 at in omega (arith, le, z)) in
        let P : Lit → Type 0 = λ l. IsImplied clauses start l in
        subst P f.2 (rest there.0 f.0 (omega (arith, there.1, lt)) there.2 low))

-- where the decided literals are implied, all are
pub decisions-imply :
    (clauses : List (List Lit)) (es : List Entry) (start : List Lit)
    → AreReasons clauses es → ((e : Entry) → Contains es e → e.reason ≡ None → IsImplied clauses start e.lit)
    → (n k : ℕ) (e : Entry) → k < n → slice_get es k ≡ Some e → IsImplied clauses start e.lit
decisions-imply clauses es start reasons decided zero k e lt at = absurd (omega (arith, lt))
decisions-imply clauses es start reasons decided (suc n) k e lt at = by-reason e.reason refl (λ j f. decisions-imply clauses es start reasons decided n j f)
  where
    by-reason : (o : Option ℕ) → e.reason ≡ o → ((j : ℕ) (f : Entry) → j < n → slice_get es j ≡ Some f → IsImplied clauses start f.lit) → IsImplied clauses start e.lit
    by-reason None q rest = decided e (contains-get es k e at) q
    by-reason (Some id) q rest =
        let r = reasons k e id at q in
        forced r.0 e.lit (contains-get clauses id r.0 r.1) r.2
        (λ m hm ne.
        let f = r.3 m hm ne in
        let there = take-get k es f.0 f.1 in
        let P : Lit → Type 0 = λ l. IsImplied clauses start l in
        subst P f.2 (rest there.0 f.0 (omega (arith, there.1, lt)) there.2))

pub trail-implied :
    (clauses : List (List Lit)) (es : List Entry) (start : List Lit)
    → AreReasons clauses es → ((e : Entry) → Contains es e → e.reason ≡ None → IsImplied clauses start e.lit)
    → (e : Entry) → Contains es e → IsImplied clauses start e.lit
trail-implied clauses es start reasons decided e c =
    let at = get-contained es e c in
    decisions-imply clauses es start reasons decided (at.0 + 1) at.0 e (omega arith) at.1

pub trail-conflicts :
    (clauses : List (List Lit)) (es : List Entry) (start : List Lit)
    → AreReasons clauses es → ((e : Entry) → Contains es e → e.reason ≡ None → IsImplied clauses start e.lit)
    → (id : ℕ) → IsConflict clauses es id → Conflicts clauses start
trail-conflicts clauses es start reasons decided id conflict = (
  conflict.0,
  contains-get clauses id conflict.0 conflict.1,
  λ m c.
      let f = conflict.2 m c in
      let P : Lit → Type 0 = λ l. IsImplied clauses start l in
      subst P f.2 (trail-implied clauses es start reasons decided f.0 f.1),
)

pub trail-refuted :
    (clauses : List (List Lit)) (t : Course) (id : ℕ)
    → IsCourse t → t.level ≡ 0 → AreReasons clauses t.entries → IsConflict clauses t.entries id → Follows clauses []
trail-refuted clauses t id course zero' reasons conflict =
    trail-conflicts clauses t.entries [] reasons
    (λ e c none.
    let at = get-contained t.entries e c in
    absurd (omega (arith, zero', decided-above 0 t.entries t.level at.0 e course.rises at.1 none, level-at-most 0 t.entries t.level e course.rises c)))
    id conflict
