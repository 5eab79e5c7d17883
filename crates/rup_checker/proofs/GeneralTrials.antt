-- What a trail of denials shows of a clause.
use Rattle.std.proofs.Common.{◌≡◌, ℕ, ◌+◌, ◌<◌, inl, inr, List, [], ◌∷◌, ◌++◌, length, Option, Some, None, is_none, is_some, IfSome, IfNone, Bool, true, false, not, MatchBool, refl, ap, sym, ◌∙◌, subst, arith}
use Rattle.std.specs.List.{Contains}
use Rattle.std.proofs.lemmas.List.Elements.{Contains-push, Contains-push_cases, Contains-append_left}
use Rattle.clause_store.specs.declared.Lit.{Lit}
use Rattle.clause_store.specs.Clauses.{Formula, InVars, negated}
use Rattle.clause_store.specs.Propagation.{IsImplied, Follows, negations, HasAll}
use Rattle.clause_store.specs.Propagation.IsImplied.{assumed}
use Rattle.clause_store.proofs.LeastSet.{closed-no_conflict, more-conflicts, more-follows}
use Rattle.clause_store.proofs.GeneralLists.{Contains-nil}
use Rattle.clause_store.proofs.GeneralLiterals.{Contains-negations, Contains-from_negations, negated-negated, lit_cases}
use Rattle.trail_core.specs.Course.{Entry, Course, HasNoValue, Holds, Fails, decided, taken_back}
use Rattle.trail_core.proofs.GeneralTrails.{level-at-most, decided-above}
use Rattle.trail_core.proofs.GeneralPlaces.{contains-get, get-contained}
use Rattle.watch_lists.specs.Watching.{Watch, Watching}
use Rattle.watch_lists.specs.Propagated.{truths}
use Rattle.watch_lists.proofs.GeneralWatches.{holds-truths, back-seen-below}
use Rattle.watch_lists.proofs.Steps.{Contains-take}
use Rattle.conflict_cut.specs.Cut.{AreReasons, IsConflict}
use Rattle.conflict_cut.proofs.GeneralLevels.{trail-implied, trail-conflicts, trail-refuted}
use Rattle.unit_closure.specs.Search.{IsSearch, IsSound, Spreads, with_clause}
use Rattle.unit_closure.proofs.Going.{never}
use Rattle.unit_closure.proofs.Adding.{search-wider}
use Rattle.unit_closure.proofs.GeneralSearch.{search-decided, search-closed, search-back, decision}
use Rattle.rup_checker.specs.Trying.{IsReady, IsChecker, IsTrying, AreDenials, HasPart}

-- what was decided is assumed
assumed-denials : (clauses : List (List Lit)) (es : List Entry) (clause : List Lit) → AreDenials es clause → (e : Entry) → Contains es e → e.reason ≡ None → IsImplied clauses (negations clause) e.lit
assumed-denials clauses es clause denials e c n = assumed e.lit (denials e c n)

-- a false clause shows that the denied one follows
pub follows-conflict : (clauses : List (List Lit)) (es : List Entry) (clause : List Lit) (id : ℕ) → AreReasons clauses es → AreDenials es clause → IsConflict clauses es id → Follows clauses clause
follows-conflict clauses es clause id reasons denials = trail-conflicts clauses es (negations clause) reasons (assumed-denials clauses es clause denials) id

-- and so does a literal of it that is implied
pub follows-implied : (clauses : List (List Lit)) (es : List Entry) (clause : List Lit) (l : Lit) (id : ℕ) → AreReasons clauses es → AreDenials es clause → Contains clause l
    → (h : Holds es l) → h.0.reason ≡ Some id → Follows clauses clause
follows-implied clauses es clause l id reasons denials has (e, c, q) by =
    let at = get-contained es e c in
    let r = reasons at.0 e id at.1 by in
    let P : Lit → Type 0 = λ x. IsImplied clauses (negations clause) x in (
      r.0,
      contains-get clauses id r.0 r.1,
      λ m hm. elim (lit_cases m e.lit) [
        | inl same ↦ subst P (sym (ap negated (same.0 ∙ q))) (assumed (negated l) (Contains-negations clause l has))
        | inr other ↦
            let f = r.3 m hm other.0 in
            subst P f.2 (trail-implied clauses es (negations clause) reasons (assumed-denials clauses es clause denials) f.0 (Contains-take at.0 es f.0 f.1))
      ],
    )

-- a literal of it that was decided stands beside its negation
pub beside-negation : (es : List Entry) (clause : List Lit) (l : Lit) → AreDenials es clause → Contains clause l → (h : Holds es l) → h.0.reason ≡ None → (m : Lit) × Contains clause m × Contains clause (negated m)
beside-negation es clause l denials has (e, c, q) none =
    let P : Lit → Type 0 = λ x. Contains (negations clause) x in
    (l, has, Contains-from_negations clause l (subst P q (denials e c none)))

-- where all its literals are false and no clause is, it doesn't follow
pub follows-not : (clauses : List (List Lit)) (list : List Watch) (t : Course) (clause : List Lit) → IsSearch clauses list t → t.seen ≡ length t.entries
    → ((m : Lit) → Contains clause m → Fails t.entries m) → Follows clauses clause → ⊥
follows-not clauses list t clause s seen fails =
    let closed = search-closed clauses list t s seen in
    closed-no_conflict clauses (negations clause) (truths t.entries) has closed.0 closed.1
  where
    has : HasAll (truths t.entries) (negations clause)
    has l c =
        let P : Lit → Type 0 = λ x. Holds t.entries x in
        holds-truths t.entries l (subst P (negated-negated l) (fails (negated l) (Contains-from_negations clause l c)))

-- denying one literal more
pub sound-decided : (f : Formula) (w : Watching) (t u : Course) (l : Lit) → IsSound f w t → t.seen ≡ length t.entries → InVars f.vars l → HasNoValue t.entries l.var → u ≡ decided t (negated l) → IsSound f w u
sound-decided f w t u l s seen there free is =
    let V : ℕ → Type 0 = λ n. InVars n l in
    record {
      watches_vars = s.watches_vars;
      trail_vars = ap (λ (x : Course). x.vars) is ∙ s.trail_vars;
      search = search-decided f.clauses w.list t u (negated l) s.search seen (subst V (sym s.trail_vars) there) free is;
    }

denials-decided : (t : Course) (clause : List Lit) (l : Lit) → AreDenials t.entries clause → Contains clause l → AreDenials (decided t (negated l)).entries clause
denials-decided t clause l denials has e c none = elim (Contains-push_cases t.entries (decision t (negated l)) e c) [
  | inl old ↦ denials e old none
  | inr new ↦ (let P : Entry → Type 0 = λ x. Contains (negations clause) x.lit in subst P new (Contains-negations clause l has))
]

pub denials-spread : (t u v : Course) (clause : List Lit) (l : Lit) → AreDenials t.entries clause → Contains clause l → u ≡ decided t (negated l) → Spreads u v → AreDenials v.entries clause
denials-spread t u v clause l denials has is s e c none =
    let P : Course → Type 0 = λ x. AreDenials x.entries clause in
    subst P (sym is) (denials-decided t clause l denials has) e (s.decided e c none) none

pub fails-spread : (t u v : Course) (l : Lit) → u ≡ decided t (negated l) → Spreads u v → Fails v.entries l
fails-spread t u v l is s =
    let P : Course → Type 0 = λ x. Contains x.entries (decision t (negated l)) in
    (decision t (negated l), s.kept (decision t (negated l)) (subst P (sym is) (Contains-push t.entries (decision t (negated l)))), refl)

pub level-spread : (t u v : Course) (l : Lit) → u ≡ decided t (negated l) → Spreads u v → v.level ≡ t.level + 1
level-spread t u v l is s = s.level ∙ ap (λ (x : Course). x.level) is

-- at level 0 nothing is decided
pub no-denials : (f : Formula) (w : Watching) (t : Course) (clause : List Lit) → IsReady f w t → AreDenials t.entries clause
no-denials f w t clause r e c none =
    let at = get-contained t.entries e c in
    let course = r.sound.search.course in
    absurd (omega (arith, r.level, decided-above 0 t.entries t.level at.0 e course.rises at.1 none, level-at-most 0 t.entries t.level e course.rises c))

pub trying-begins : (f : Formula) (w : Watching) (t : Course) (clause : List Lit) → IsReady f w t → IsTrying f w t clause
trying-begins f w t clause r = record { sound = r.sound; seen = r.seen; denials = no-denials f w t clause r }

-- where the empty clause follows, all clauses do
pub all-follow : (clauses : List (List Lit)) (clause : List Lit) → Follows clauses [] → Follows clauses clause
all-follow clauses clause = more-conflicts clauses clauses (negations []) (negations clause) (λ c h. h) (λ l h. absurd (Contains-nil l h))

twice : (b : Bool) → not (not b) ≡ b
twice true = refl
twice false = refl

pub none-is : (o : Option ℕ) (b : Bool) → is_some o ≡ not b → is_none o ≡ b
none-is o b e = ap not e ∙ twice b

-- propagation at level 0 leaves a ready checker, or refutes
pub spread-ready : (o : Option ℕ) (f : Formula) (w : Watching) (t u : Course) → IsSound f w u → t.level ≡ 0 → Spreads t u
    → IfSome o (λ id. IsConflict f.clauses u.entries id) → IfNone o (u.seen ≡ length u.entries) → MatchBool (is_none o) (IsReady f w u) (Follows f.clauses [])
spread-ready None f w t u s z grown bad seen = record { sound = s; level = grown.level ∙ z; seen = seen }
spread-ready (Some id) f w t u s z grown bad seen = trail-refuted f.clauses u id s.search.course (grown.level ∙ z) s.search.reasons bad

-- a checker, by whether no clause was found false
pub alive-or-not : (alive : Bool) (f : Formula) (w : Watching) (t : Course) → MatchBool alive (IsReady f w t) (Follows f.clauses []) → IsChecker (not alive) f w t
alive-or-not true f w t r = record { alive = λ is. r; refuted = λ is. never _ (sym is) }
alive-or-not false f w t r = record { alive = λ is. never _ is; refuted = λ is. r }

pub still-refuted : (dead : Bool) (f g : Formula) (w : Watching) (t : Course) (clause : List Lit) → dead ≡ true → g ≡ with_clause f clause → Follows f.clauses [] → IsChecker dead g w t
still-refuted true f g w t clause e is h = record {
  alive = λ no. never _ no;
  refuted = λ yes. subst (λ (x : Formula). Follows x.clauses []) (sym is) (more-follows f.clauses (f.clauses ++ clause ∷ []) [] (λ c i. Contains-append_left f.clauses (clause ∷ []) c i) h);
}
still-refuted false f g w t clause e is h = never _ (sym e)

pub was-true : (b : Bool) (P Q : Type 0) → b ≡ true → MatchBool b P Q → P
was-true true P Q e h = h
was-true false P Q e h = never P (sym e)

pub was-false : (b : Bool) (P Q : Type 0) → b ≡ false → MatchBool b P Q → Q
was-false false P Q e h = h
was-false true P Q e h = never Q e

-- back at level 0 all is gone through
pub ready-back : (f : Formula) (w : Watching) (t u : Course) → IsSound f w t → 0 < t.level → u ≡ taken_back t 0 → IsReady f w u
ready-back f w t u s lt is = (let P : Course → Type 0 = λ x. IsReady f w x in subst P (sym is) (record {
  sound = record { watches_vars = s.watches_vars; trail_vars = s.trail_vars; search = search-back f.clauses w.list t 0 s.search lt };
  level = refl;
  seen = back-seen-below t 0 s.search.unseen lt;
}))

-- a clause that has a part among the others follows from them
pub part-follows : (clauses : List (List Lit)) (clause : List Lit) → HasPart clauses clause → Follows clauses clause
part-follows clauses clause (id, part, at, within) =
    (part, contains-get clauses id part at, λ m hm. assumed (negated m) (Contains-negations clause m (within m hm)))

-- and is put behind them without a watch
ready-repeated : (f g : Formula) (w : Watching) (t : Course) (clause : List Lit) → g ≡ with_clause f clause → HasPart f.clauses clause → IsReady f w t → IsReady g w t
ready-repeated f g w t clause is (id, part, at, within) r = subst (λ (x : Formula). IsReady x w t) (sym is) (record {
  sound = record {
    watches_vars = r.sound.watches_vars;
    trail_vars = r.sound.trail_vars;
    search = search-wider f.clauses clause part w.list t id r.sound.search at within;
  };
  level = r.level;
  seen = r.seen;
})

pub checker-repeated : (dead : Bool) (f g : Formula) (w : Watching) (t : Course) (clause : List Lit) → g ≡ with_clause f clause → HasPart f.clauses clause → IsChecker dead f w t → IsChecker dead g w t
checker-repeated dead f g w t clause is has k = record {
  alive = λ e. ready-repeated f g w t clause is has (k.alive e);
  refuted = λ e. subst (λ (x : Formula). Follows x.clauses []) (sym is) (more-follows f.clauses (f.clauses ++ clause ∷ []) [] (λ c i. Contains-append_left f.clauses (clause ∷ []) c i) (k.refuted e));
}
