-- Below the level of a conflict all clauses are safe.
use Rattle.std.proofs.Common.{◌≡◌, ℕ, ◌+◌, ◌<◌, ◌≤◌, ◌⊎◌, inl, inr, List, [], ◌∷◌, length, slice_get, Some, subst, arith}
use Rattle.std.specs.List.{Contains}
use Rattle.clause_store.specs.declared.Lit.{Lit}
use Rattle.clause_store.specs.Clauses.{negated}
use Rattle.clause_store.specs.Propagation.{IsNew, IsClosed, HasNoConflict}
use Rattle.clause_store.proofs.GeneralLists.{Contains-nil, Contains-head, Contains-tail, Contains-cons_cases}
use Rattle.clause_store.proofs.LeastSet.{new-closed}
use Rattle.clause_store.proofs.Bridges.{all_safe-closed}
use Rattle.trail_core.specs.Course.{Entry, Course, IsCourse, Fails, HaveOnce, up_to, taken_back}
use Rattle.trail_core.specs.Standing.{AllFail, IsUnit}
use Rattle.trail_core.proofs.GeneralTrails.{not-both, free-not-holds, free-not-fails, level-at-most, level-cases, to-up_to}
use Rattle.trail_core.proofs.GeneralPlaces.{contains-get, get-contained}
use Rattle.watch_lists.specs.Watching.{Watch, numbers}
use Rattle.watch_lists.specs.Propagated.{IsSafe, AreSafe, truths}
use Rattle.watch_lists.proofs.Closing.{safe-in-step}
use Rattle.watch_lists.proofs.GeneralWatches.{back, back-seen-below, holds-truths, not-truths, truths-consistent, safe-at}
use Rattle.conflict_cut.specs.Cut.{IsConflict, FailsAt, HasPresent}
use Rattle.cdcl_core.specs.Search.{IsTrueAtZero, IsSearch}

pub zero-below : (level : ℕ) (es : List Entry) (clause : List Lit) → IsTrueAtZero es clause → IsTrueAtZero (up_to level es) clause
zero-below level es clause z = (z.0, z.1, z.2, to-up_to level es z.1 z.3 (omega (arith, z.5)), z.4, z.5)

-- where all clauses are attached and safe or true from level 0 on
all-safe : (clauses : List (List Lit)) (ns : List ℕ) (es : List Entry) → AreSafe clauses ns es → ((id : ℕ) (c : List Lit) → slice_get clauses id ≡ Some c → Contains ns id ⊎ IsTrueAtZero es c) → (c : List Lit) → Contains clauses c → IsSafe es c
all-safe clauses ns es safe known c has = (let at = get-contained clauses c has in elim (known at.0 c at.1) [
  | inl attached ↦ safe at.0 c (attached, at.1)
  | inr z ↦ inl (z.0, z.2, (z.1, z.3, z.4))
])

pub safe-now : (clauses : List (List Lit)) (list : List Watch) (t : Course) → IsSearch clauses list t → t.seen ≡ length t.entries → (c : List Lit) → Contains clauses c → IsSafe t.entries c
safe-now clauses list t s seen = all-safe clauses (numbers list) t.entries (safe-in-step clauses t list s.watches s.in_step seen) s.known

known-below : (clauses : List (List Lit)) (list : List Watch) (t : Course) (level : ℕ) → IsSearch clauses list t → (id : ℕ) (c : List Lit) → slice_get clauses id ≡ Some c → Contains (numbers list) id ⊎ IsTrueAtZero (up_to level t.entries) c
known-below clauses list t level s id c at = elim (s.known id c at) [
  | inl attached ↦ inl attached
  | inr z ↦ inr (zero-below level t.entries c z)
]

pub safe-below : (clauses : List (List Lit)) (list : List Watch) (t : Course) (level : ℕ) → IsSearch clauses list t → level < t.level → (c : List Lit) → Contains clauses c → IsSafe (up_to level t.entries) c
safe-below clauses list t level s lt =
    all-safe clauses (numbers list) (up_to level t.entries)
    (safe-in-step clauses (taken_back t level) list s.watches (back list t level s.course s.in_step) (back-seen-below t level s.unseen lt))
    (known-below clauses list t level s)

-- safe clauses are closed, and none is false
pub closed-all : (clauses : List (List Lit)) (es : List Entry) → HaveOnce es → ((c : List Lit) → Contains clauses c → IsSafe es c) → IsClosed clauses (truths es) × HasNoConflict clauses (truths es)
closed-all clauses es once safe = all_safe-closed clauses (truths es) (truths-consistent es once) (λ c h. safe-at es c (safe c h))

pub not-fails : (es : List Entry) (c : List Lit) → HaveOnce es → IsSafe es c → AllFail es c → ⊥
not-fails es c once (inl (l, has, holds)) fail = not-both es l once holds (fail l has)
not-fails es c once (inr (l, m, hl, hm, ne, fl, fm)) fail = free-not-fails es l fl (fail l hl)

pub new-below : (clauses : List (List Lit)) (es : List Entry) (clause : List Lit) → HaveOnce es → ((c : List Lit) → Contains clauses c → IsSafe es c) → IsUnit es clause → IsNew clauses clause
new-below clauses es clause once safe unit =
    let closed = closed-all clauses es once safe in
    new-closed clauses clause unit.0 (truths es) unit.1 (not-truths es unit.0 (λ h. free-not-holds es unit.0 unit.2 h))
    (λ m h ne. holds-truths es (negated m) (unit.3 m h ne)) closed.0 closed.1

level-side : (k level : ℕ) → (k ≤ level) ⊎ (level < k)
level-side k level = elim (level-cases k level) [ inl h ↦ inl h.0 | inr h ↦ inr h.0 ]

-- a false clause has a literal of the present level, or is false below it
low-or-present : (t : Course) (level : ℕ) → IsCourse t → t.level ≡ level + 1 → (clause : List Lit) → AllFail t.entries clause → ((l : Lit) × Contains clause l × FailsAt t.entries l t.level) ⊎ AllFail (up_to level t.entries) clause
low-or-present t level course is [] fail = inr (λ m c. absurd (Contains-nil m c))
low-or-present t level course is (x ∷ xs) fail = elim (low-or-present t level course is xs (λ m c. fail m (Contains-tail x xs m c))) [
  | inl p ↦ inl (p.0, Contains-tail x xs p.0 p.1, p.2)
  | inr low ↦ (let f = fail x (Contains-head x xs) in here f low (level-side f.0.level level))
]
  where
    here : (f : Fails t.entries x) → AllFail (up_to level t.entries) xs → (f.0.level ≤ level) ⊎ (level < f.0.level) → ((l : Lit) × Contains (x ∷ xs) l × FailsAt t.entries l t.level) ⊎ AllFail (up_to level t.entries) (x ∷ xs)
    here f low (inl le) = inr (λ m c. elim (Contains-cons_cases x xs m c) [
      | inl same ↦ (let P : Lit → Type 0 = λ l. Fails (up_to level t.entries) l in subst P same (f.0, to-up_to level t.entries f.0 f.1 le, f.2))
      | inr later ↦ low m later
    ])
    here f low (inr lt) = inl (x, Contains-head x xs, (f.0, f.1, f.2, omega (arith, is, lt, level-at-most 0 t.entries t.level f.0 course.rises f.1)))

pub has-present : (clauses : List (List Lit)) (list : List Watch) (t : Course) (id level : ℕ) → IsSearch clauses list t → HaveOnce (up_to level t.entries) → t.level ≡ level + 1 → IsConflict clauses t.entries id → HasPresent clauses t id
has-present clauses list t id level s once is (clause, at, fail) = elim (low-or-present t level s.course is clause fail) [
  | inl p ↦ (clause, at, p)
  | inr low ↦ absurd (not-fails (up_to level t.entries) clause once (safe-below clauses list t level s (omega (arith, is)) clause (contains-get clauses id clause at)) low)
]
