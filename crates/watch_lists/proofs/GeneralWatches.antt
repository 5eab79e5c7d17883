-- General: what keeps watches and trail in step. These lemmas are on the definitions alone, and other crates may cite them.
use Rattle.std.proofs.Common.{◌<◌, ◌≡◌, ℕ, zero, suc, ◌≤◌, ◌++◌, ◌⊎◌, inl, inr, min, Bool, true, false, nat_le, List, [], ◌∷◌, length, take, drop, refl, ap, sym, ◌∙◌, subst, arith}
use Rattle.std.specs.List.{Contains}
use Rattle.std.proofs.lemmas.Bool.Decides.{nat_tests}
use Rattle.std.proofs.lemmas.List.Elements.{Contains-push_cases, filter-append}
use Rattle.std.proofs.lemmas.List.{take-append-drop, append-nil, length-take}
use Rattle.clause_store.specs.declared.Lit.{Lit}
use Rattle.clause_store.specs.Clauses.{negated}
use Rattle.clause_store.specs.Propagation.{IsConsistent, IsSafeAt, IsFree}
use Rattle.clause_store.proofs.GeneralLists.{Contains-nil, Contains-head_is, Contains-tail, Contains-cons_cases, Contains-filter, Contains-from_filter}
use Rattle.trail_core.specs.Course.{Entry, Course, IsCourse, Holds, HasNoValue, HaveOnce, Rises, up_to, extended, taken_back}
use Rattle.trail_core.proofs.GeneralTrails.{not-both, free-not-holds, free-not-fails, once-same}
use Rattle.trail_core.proofs.GeneralTrails.{level-cases, up_to-keeps, up_to-drops, up_to-none}
use Rattle.trail_core.proofs.GeneralPlaces.{get-more}
use Rattle.watch_lists.specs.Watching.{Watch}
use Rattle.watch_lists.specs.Watching.{IsWatch, AreWatches, AreInStep, UnseenArePresent, IsGuarded, IsNotFalse, IsWellChosen}
use Rattle.watch_lists.specs.Propagated.{IsSafe, truths}
use Rattle.watch_lists.proofs.Steps.{guarded-push, Contains-take, seen-in}
use Rattle.clause_store.proofs.GeneralLiterals.{lit_cases}

pub empty : (list : List Watch) (t : Course) → t.entries ≡ [] → AreInStep list t
empty list t h = λ w c. (none w.first w.second, none w.second w.first)
  where
    none : (a b : Lit) → IsGuarded t a b
    none a b e c q = (let P : List Entry → Type 0 = λ es. Contains es e in absurd (Contains-nil e (subst P h (seen-in t e c))))

pub longer : (list : List Watch) (t : Course) (level : ℕ) (e : Entry) → t.seen ≤ length t.entries → AreInStep list t → AreInStep list (extended t level e)
longer list t level e k h = λ w c. (
  guarded-push t level e w.first w.second k (h w c).0,
  guarded-push t level e w.second w.first k (h w c).1,
)

-- what is not above a level stands in front
up_to-prefix : (level from : ℕ) (es : List Entry) (to : ℕ) → Rises from es to → (rest : List Entry) × (es ≡ up_to level es ++ rest)
up_to-prefix level from [] to h = ([], refl)
up_to-prefix level from (e ∷ es) to h = elim (level-cases e.level level) [
  | inl k ↦
      let r = up_to-prefix level e.level es to h.1 in
      (r.0, ap (λ (xs : List Entry). e ∷ xs) r.1 ∙ ap (λ (xs : List Entry). xs ++ r.0) (sym (up_to-keeps level e es k.0)))
  | inr k ↦
      (e ∷ es, ap (λ (xs : List Entry). xs ++ e ∷ es) (sym (up_to-drops level e es k.0 ∙ up_to-none level e.level es to h.1 k.0)))
]

take-of-prefix : (k m : ℕ) (us rest : List Entry) (e : Entry) → k ≤ m → Contains (take k us) e → Contains (take m (us ++ rest)) e
take-of-prefix zero m us rest e le c = absurd (Contains-nil e c)
take-of-prefix (suc k) m [] rest e le c = absurd (Contains-nil e c)
take-of-prefix (suc k) zero (x ∷ xs) rest e le c = absurd (omega (arith, le))
take-of-prefix (suc k) (suc m) (x ∷ xs) rest e le c = elim (Contains-cons_cases x (take k xs) e c) [
  | inl same ↦ Contains-head_is x (take m (xs ++ rest)) e same
  | inr later ↦ Contains-tail x (take m (xs ++ rest)) e (take-of-prefix k m xs rest e (omega (arith, le)) later)
]

test-le : (k level : ℕ) → nat_le k level ≡ true → k ≤ level
test-le k level e = grind (arith, nat_tests)

le-test : (k level : ℕ) → k ≤ level → nat_le k level ≡ true
le-test k level h = grind (arith, nat_tests)

guarded-back : (t : Course) (level : ℕ) (a b : Lit) → IsCourse t → IsGuarded t a b → IsGuarded (taken_back t level) a b
guarded-back t level a b k h = λ e c q.
    let r = up_to-prefix level 0 t.entries t.level k.rises in
    let P : List Entry → Type 0 = λ es. Contains (take t.seen es) e in
    let was : Contains (take t.seen t.entries) e = subst P (sym r.1) (take-of-prefix (min t.seen (length (up_to level t.entries))) t.seen (up_to level t.entries) r.0 e (omega arith) c) in
    let e-in : Contains (up_to level t.entries) e = Contains-take (min t.seen (length (up_to level t.entries))) (up_to level t.entries) e c in
    let e-low : e.level ≤ level = test-le e.level level (Contains-from_filter (λ (x : Entry). nat_le x.level level) t.entries e e-in).1 in
    let f = h e was q in
    let f-low : f.0.level ≤ level = omega (arith, f.3, e-low) in
    (f.0, Contains-filter (λ (x : Entry). nat_le x.level level) t.entries f.0 f.1 (le-test f.0.level level f-low), f.2, f.3)

pub back : (list : List Watch) (t : Course) (level : ℕ) → IsCourse t → AreInStep list t → AreInStep list (taken_back t level)
back list t level k h = λ w c. (
  guarded-back t level w.first w.second k (h w c).0,
  guarded-back t level w.second w.first k (h w c).1,
)

filter-short : (level : ℕ) (es : List Entry) → length (up_to level es) ≤ length es
filter-short level [] = omega arith
filter-short level (e ∷ es) = elim (level-cases e.level level) [
  | inl k ↦ omega (arith, ap (λ (xs : List Entry). length xs) (up_to-keeps level e es k.0), filter-short level es)
  | inr k ↦ omega (arith, ap (λ (xs : List Entry). length xs) (up_to-drops level e es k.0), filter-short level es)
]

pub back-seen : (t : Course) (level : ℕ) → t.seen ≡ length t.entries → (taken_back t level).seen ≡ length (taken_back t level).entries
back-seen t level h = omega (arith, h, filter-short level t.entries)

-- what isn't seen goes
filter-none : (level : ℕ) (es : List Entry) → ((e : Entry) → Contains es e → level < e.level) → up_to level es ≡ []
filter-none level [] h = refl
filter-none level (e ∷ es) h =
    up_to-drops level e es (h e (Contains-head_is e es e refl)) ∙ filter-none level es (λ f c. h f (Contains-tail e es f c))

short-of-seen : (n level : ℕ) (es : List Entry) → ((e : Entry) → Contains (drop n es) e → level < e.level) → length (up_to level es) ≤ n
short-of-seen n level es h =
    let cut : up_to level es ≡ up_to level (take n es) ++ up_to level (drop n es) =
    ap (up_to level) (sym (take-append-drop n es)) ∙ filter-append (λ (x : Entry). nat_le x.level level) (take n es) (drop n es) in
    let none : up_to level es ≡ up_to level (take n es) =
    cut ∙ ap (λ (xs : List Entry). up_to level (take n es) ++ xs) (filter-none level (drop n es) h) ∙ append-nil (up_to level (take n es)) in
    omega (arith, ap (λ (xs : List Entry). length xs) none, filter-short level (take n es), length-take n es)

pub back-seen-below : (t : Course) (level : ℕ) → UnseenArePresent t → level < t.level → (taken_back t level).seen ≡ length (taken_back t level).entries
back-seen-below t level unseen lt =
    let short = short-of-seen t.seen level t.entries (λ e c. omega (arith, lt, unseen e c)) in
    omega (arith, short)

pub others : (list : List Watch) (w : Watch) (t : Course) → AreInStep list t → IsGuarded t w.first w.second → IsGuarded t w.second w.first → AreInStep (list ++ w ∷ []) t
others list w t h a b v c = elim (contains-more list w v c) [
  | inl old ↦ h v old
  | inr same ↦ (let P : Watch → Type 0 = λ x. IsGuarded t x.first x.second × IsGuarded t x.second x.first in subst P same (a, b))
]
  where
    contains-more : (list : List Watch) (w v : Watch) → Contains (list ++ w ∷ []) v → Contains list v ⊎ (w ≡ v)
    contains-more list w v c = Contains-push_cases list w v c

pub guarded-not-false : (t : Course) (a b : Lit) → IsNotFalse t.entries a → IsGuarded t a b
guarded-not-false t a b nf = λ e c q. absurd (nf (e, seen-in t e c, q))

pub at-once : (t : Course) (w : Watch) → IsNotFalse t.entries w.first → IsNotFalse t.entries w.second → AreInStep (w ∷ []) t
at-once t w nf ng v c = elim (Contains-cons_cases w [] v c) [
  | inl same ↦
      let P : Watch → Type 0 = λ x. IsGuarded t x.first x.second × IsGuarded t x.second x.first in
      subst P same (guarded-not-false t w.first w.second nf, guarded-not-false t w.second w.first ng)
  | inr none ↦ absurd (Contains-nil v none)
]

pub later : (t : Course) (w : Watch) (e f : Entry) → IsCourse t → Contains t.entries f → f.lit ≡ w.first → Contains t.entries e → e.lit ≡ negated w.second → f.level ≤ e.level → AreInStep (w ∷ []) t
later t w e f k cf qf ce qe le v c = elim (Contains-cons_cases w [] v c) [
  | inl same ↦
      let P : Watch → Type 0 = λ x. IsGuarded t x.first x.second × IsGuarded t x.second x.first in
      subst P same (
        guarded-not-false t w.first w.second (λ bad. not-both t.entries w.first k.once (f, cf, qf) bad),
        λ x cx qx.
            let same-e : x ≡ e = once-same t.entries x e k.once (seen-in t x cx) ce (ap (λ (l : Lit). l.var) (qx ∙ sym qe)) in
            let levels : x.level ≡ e.level = ap (λ (y : Entry). y.level) same-e in
            (f, cf, qf, omega (arith, le, levels)),
      )
  | inr none ↦ absurd (Contains-nil v none)
]

pub watches-more : (clauses : List (List Lit)) (entries : List Entry) (list : List Watch) (w : Watch) → AreWatches clauses list → IsWellChosen clauses entries w → AreWatches clauses (list ++ w ∷ [])
watches-more clauses entries list w h k v c = elim (Contains-push_cases list w v c) [
  | inl old ↦ h v old
  | inr same ↦ (let P : Watch → Type 0 = λ x. IsWatch clauses x in subst P same (k.0, k.1, k.2, k.3, k.4))
]

pub clauses-more : (clauses : List (List Lit)) (clause : List Lit) (list : List Watch) → AreWatches clauses list → AreWatches (clauses ++ clause ∷ []) list
clauses-more clauses clause list h w c =
    let k = h w c in (k.0, get-more clauses clause w.clause k.0 k.1, k.2, k.3, k.4)

-- truth as a set
pub truths-holds : (es : List Entry) (l : Lit) → truths es l ≡ true → Holds es l
truths-holds [] l e = cc
truths-holds (x ∷ xs) l e = elim (lit_cases x.lit l) [
  | inl same ↦ (x, Contains-head_is x xs x refl, same.0)
  | inr apart ↦
      let rest : truths xs l ≡ true = rw apart.1 at e in
      let h = truths-holds xs l rest in (h.0, Contains-tail x xs h.0 h.1, h.2)
]

pub holds-truths : (es : List Entry) (l : Lit) → Holds es l → truths es l ≡ true
holds-truths [] l h = absurd (Contains-nil h.0 h.1)
holds-truths (x ∷ xs) l h = elim (lit_cases x.lit l) [
  | inl same ↦ rw same.1 refl
  | inr apart ↦ rw apart.1 (elim (Contains-cons_cases x xs h.0 h.1) [
    | inl is ↦ absurd (apart.0 (ap (λ (y : Entry). y.lit) is ∙ h.2))
    | inr later ↦ holds-truths xs l (h.0, later, h.2)
  ])
]

pub not-truths : (es : List Entry) (l : Lit) → (Holds es l → ⊥) → truths es l ≡ false
not-truths es l h = split (truths es l) refl
  where
    split : (b : Bool) → truths es l ≡ b → b ≡ false
    split true e = absurd (h (truths-holds es l e))
    split false e = refl

pub truths-consistent : (es : List Entry) → HaveOnce es → IsConsistent (truths es)
truths-consistent es once l e = not-truths es (negated l) (λ f. not-both es l once (truths-holds es l e) f)

pub safe-at : (es : List Entry) (clause : List Lit) → IsSafe es clause → IsSafeAt clause (truths es)
safe-at es clause (inl (t, has, holds)) = inl (t, has, holds-truths es t holds)
safe-at es clause (inr (a, b, ha, hb, ne, fa, fb)) = inr (a, b, ha, hb, ne, free a fa, free b fb)
  where
    free : (l : Lit) → HasNoValue es l.var → IsFree (truths es) l
    free l f = (not-truths es l (free-not-holds es l f), not-truths es (negated l) (free-not-fails es l f))
