-- What a search answers.
use Rattle.std.proofs.Common.{◌≡◌, ℕ, ◌-◌, ◌<◌, ◌≤◌, inl, inr, Bool, true, false, not, List, [], ◌∷◌, ◌++◌, length, slice_get, get_or, if◌then◌else◌, Option, Some, None, refl, ap, sym, ◌∙◌, subst, arith, append_assoc}
use Rattle.std.specs.List.{All, Contains}
use Rattle.std.proofs.lemmas.Option.{get_or_from_slice_get, slice_get-get_or}
use Rattle.std.proofs.lemmas.List.Elements.{All-contains, Contains-get_or, Contains-push, Contains-push_cases, Contains-append_left}
use Rattle.clause_store.specs.declared.Lit.{Lit}
use Rattle.clause_store.specs.Clauses.{negated, InVars}
use Rattle.clause_store.specs.Propagation.{IsImplied, Follows, IsNew, negations, HasAll}
use Rattle.clause_store.specs.Propagation.IsImplied.{assumed}
use Rattle.clause_store.specs.Truth.{is_true, MakesTrue, MakesAllTrue}
use Rattle.clause_store.proofs.InTurn.{turn-push}
use Rattle.clause_store.proofs.LeastSet.{closed-no_conflict}
use Rattle.clause_store.proofs.GeneralLists.{Contains-nil}
use Rattle.clause_store.proofs.GeneralLiterals.{Contains-negations, Contains-from_negations, negated-negated, lit_cases}
use Rattle.trail_core.specs.Course.{Entry, Course, Holds, IsValue, HaveOnce, up_to}
use Rattle.trail_core.proofs.GeneralTrails.{level-at-most, not-both, free-not-holds, to-up_to, HaveOnce-up_to}
use Rattle.trail_core.proofs.GeneralPlaces.{contains-get, get-contained}
use Rattle.watch_lists.specs.Watching.{Watch}
use Rattle.watch_lists.specs.Propagated.{IsSafe, truths}
use Rattle.watch_lists.proofs.GeneralWatches.{holds-truths}
use Rattle.watch_lists.proofs.Steps.{Contains-take}
use Rattle.conflict_cut.specs.Cut.{AreReasons, IsConflict}
use Rattle.cdcl_core.specs.declared.descent.Footing.{Footing}
use Rattle.cdcl_core.specs.Answering.{AreLessons}
use Rattle.cdcl_core.specs.Blame.{AreDecided, IsBehind}
use Rattle.cdcl_core.specs.Search.{IsSearch, IsLesson}
use Rattle.cdcl_core.specs.Steps.{HaveValues, IsFooting, written}
use Rattle.cdcl_core.proofs.Below.{safe-now, safe-below, closed-all}

-- values
value-is : (es : List Entry) (l : Lit) (o : Option Bool) → HaveOnce es → Holds es l → IsValue es l.var o → o ≡ Some l.positive
value-is es l None once h free = absurd (free-not-holds es l free h)
value-is es l (Some b) once h v = split b l.positive refl v
  where
    split : (a q : Bool) → q ≡ l.positive → Holds es (record { var = l.var; positive = a }) → Some a ≡ Some l.positive
    split true true e k = ap (λ (x : Bool). Some x) e
    split false false e k = ap (λ (x : Bool). Some x) e
    split true false e k = absurd (not-both es l once h (let P : Bool → Type 0 = λ x. Holds es (record { var = l.var; positive = not x }) in subst P e k))
    split false true e k = absurd (not-both es l once h (let P : Bool → Type 0 = λ x. Holds es (record { var = l.var; positive = not x }) in subst P e k))

true-from : (values : List Bool) (l : Lit) → get_or values (l.var - 1) false ≡ l.positive → is_true values l ≡ true
true-from values l e = split l.positive (get_or values (l.var - 1) false) refl e
  where
    split : (p v : Bool) → l.positive ≡ p → v ≡ p → (if p then v else not v) ≡ true
    split true v _ q = q
    split false v _ q = ap not q

pub holds-true : (es : List Entry) (vars : ℕ) (items : List (Option Bool)) (values : List Bool) (n : ℕ) → HaveOnce es → All (λ (e : Entry). InVars vars e.lit) es
    → length items ≡ vars → ((v : ℕ) → 1 ≤ v → v ≤ vars → IsValue es v (get_or items (v - 1) None)) → length items ≤ n
    → ((k : ℕ) (o : Option Bool) → k < n → slice_get items k ≡ Some o → slice_get values k ≡ Some (written o))
    → (l : Lit) → Holds es l → is_true values l ≡ true
holds-true es vars items values n once named len each all copied l h =
    let P : Lit → Type 0 = λ x. InVars vars x in
    let there = subst P h.2 (All-contains (λ (e : Entry). InVars vars e.lit) es h.0 named h.1) in
    let o-is = value-is es l (get_or items (l.var - 1) None) once h (each l.var there.0 there.1) in
    let lt : l.var - 1 < length items = omega (arith, there.0, there.1, len) in
    let at = copied (l.var - 1) (get_or items (l.var - 1) None) (omega (arith, lt, all)) (slice_get-get_or items (l.var - 1) None lt) in
    let read : get_or values (l.var - 1) false ≡ written (get_or items (l.var - 1) None) = get_or_from_slice_get values (l.var - 1) (written (get_or items (l.var - 1) None)) false at in
    true-from values l (read ∙ ap written o-is)

-- where nothing is false and all variables have values, all clauses are true
pub all-true : (clauses given : List (List Lit)) (list : List Watch) (t : Course) (vars : ℕ) (values : List Bool) → IsSearch clauses list t → ((c : List Lit) → Contains given c → Contains clauses c) → t.seen ≡ length t.entries
    → HaveValues t → t.vars ≡ vars → All (All (InVars vars)) clauses → ((l : Lit) → Holds t.entries l → is_true values l ≡ true) → MakesAllTrue values given
all-true clauses given list t vars values s sub seen set over named holds = λ i d lt. one (get_or given i d) (Contains-get_or given i d lt)
  where
    by : (c : List Lit) → All (InVars vars) c → IsSafe t.entries c → MakesTrue values c
    by c there (inl (l, has, h)) = (has.0, l, has.1, has.2, holds l h)
    by c there (inr (l, m, hl, hm, ne, fl, fm)) =
        let v = All-contains (InVars vars) c l there hl in
        absurd (set l.var v.0 (omega (arith, v.1, over)) fl)

    one : (c : List Lit) → Contains given c → MakesTrue values c
    one c h = by c (All-contains (All (InVars vars)) clauses c named (sub c h)) (safe-now clauses list t s seen c (sub c h))

-- a refutation by a part of the assumptions
assumed-in : (clauses : List (List Lit)) (part : List Lit) (l : Lit) → Contains part l → IsImplied clauses (negations (negations part)) l
assumed-in clauses part l h =
    let P : Lit → Type 0 = λ x. Contains (negations (negations part)) x in
    assumed l (subst P (negated-negated l) (Contains-negations (negations part) (negated l) (Contains-negations part l h)))

pub part-assumed : (asm part : List Lit) (t : Course) (f : Footing) (clauses : List (List Lit)) (list : List Watch) → IsSearch clauses list t → IsFooting asm t f → t.level ≤ f.level → AreDecided t.entries part
    → (a : Lit) → Contains part a → Contains asm a
part-assumed asm part t f clauses list s k low decided a h =
    let d = decided a h in
    subst (λ x. Contains asm x) d.2 (k.decided d.0 d.1 d.3 (omega (arith, low, level-at-most 0 t.entries t.level d.0 s.course.rises d.1)))

pub refuted-part : (clauses : List (List Lit)) (es : List Entry) (part : List Lit) (id : ℕ) → IsBehind clauses es id part → IsConflict clauses es id → Follows clauses (negations part)
refuted-part clauses es part id behind (clause, at, fail) = (
  clause,
  contains-get clauses id clause at,
  λ m hm.
      let f = fail m hm in
      let P : Lit → Type 0 = λ x. IsImplied clauses (negations (negations part)) x in
      subst P f.2 (behind (negations (negations part)) clause m f.0 (assumed-in clauses part) at hm f.1 (ap (λ (l : Lit). l.var) f.2)),
)

pub denied-part : (clauses : List (List Lit)) (es : List Entry) (part : List Lit) (a : Lit) (e : Entry) (id : ℕ) → AreReasons clauses es → Contains es e → e.lit ≡ negated a → e.reason ≡ Some id
    → IsBehind clauses es id part → Follows clauses (negations (part ++ a ∷ []))
denied-part clauses es part a e id reasons c q n behind =
    let at = get-contained es e c in
    let r = reasons at.0 e id at.1 n in
    let whole = part ++ a ∷ [] in
    let P : Lit → Type 0 = λ x. IsImplied clauses (negations (negations (part ++ a ∷ []))) x in
    let in-part : (l : Lit) → Contains part l → IsImplied clauses (negations (negations (part ++ a ∷ []))) l = λ l h. assumed-in clauses (part ++ a ∷ []) l (Contains-append_left part (a ∷ []) l h) in (
      r.0,
      contains-get clauses id r.0 r.1,
      λ m hm. elim (lit_cases m e.lit) [
        | inl same ↦ subst P (sym (ap negated (same.0 ∙ q) ∙ negated-negated a)) (assumed-in clauses (part ++ a ∷ []) a (Contains-push part a))
        | inr other ↦
            let f = r.3 m hm other.0 in
            subst P f.2 (behind (negations (negations (part ++ a ∷ []))) r.0 m f.0 in-part r.1 hm (Contains-take at.0 es f.0 f.1) (ap (λ (l : Lit). l.var) f.2))
      ],
    )

pub pushed-assumed : (asm part : List Lit) (a : Lit) → ((b : Lit) → Contains part b → Contains asm b) → Contains asm a → (b : Lit) → Contains (part ++ a ∷ []) b → Contains asm b
pushed-assumed asm part a h has b c = elim (Contains-push_cases part a b c) [
  | inl old ↦ h b old
  | inr new ↦ subst (λ x. Contains asm x) new has
]

-- above the assumptions they are not refuted by propagation
pub not-refuted : (clauses : List (List Lit)) (list : List Watch) (t : Course) (asm : List Lit) (f : Footing) → IsSearch clauses list t → IsFooting asm t f → f.level < t.level → Follows clauses (negations asm) → ⊥
not-refuted clauses list t asm f s k lt found =
    let once = HaveOnce-up_to (t.level - 1) t.entries s.course.once in
    let safe = safe-below clauses list t (t.level - 1) s (omega (arith, lt)) in
    let closed = closed-all clauses (up_to (t.level - 1) t.entries) once safe in
    closed-no_conflict clauses (negations (negations asm)) (truths (up_to (t.level - 1) t.entries)) has closed.0 closed.1 found
  where
    has : HasAll (truths (up_to (t.level - 1) t.entries)) (negations (negations asm))
    has l c =
        let P : Lit → Type 0 = λ x. Contains asm x in
        let in-asm = subst P (negated-negated l) (Contains-from_negations asm (negated l) (Contains-from_negations (negations asm) l c)) in
        let m = k.settled lt l in-asm in
        holds-truths (up_to (t.level - 1) t.entries) l (m.0, to-up_to (t.level - 1) t.entries m.0 m.1 (omega (arith, lt, m.3)), m.2)

-- one lesson after another
pub no-lessons : (before : List (List Lit)) → AreLessons before []
no-lessons before = record { follow = tt; new = tt; some = λ h. Contains-nil [] h }

pub lessons-more : (given learned more : List (List Lit)) (clause : List Lit) → AreLessons (given ++ learned) more → IsLesson (given ++ (learned ++ more)) clause → AreLessons (given ++ learned) (more ++ clause ∷ [])
lessons-more given learned more clause k old = let lesson = subst (λ cs. IsLesson cs clause) (sym (append_assoc given learned more)) old in record {
  follow = turn-push Follows (given ++ learned) more clause k.follow lesson.1;
  new = turn-push IsNew (given ++ learned) more clause k.new lesson.2;
  some = λ h. elim (Contains-push_cases more clause [] h) [ inl old ↦ k.some old | inr new ↦ lesson.0 new ];
}
