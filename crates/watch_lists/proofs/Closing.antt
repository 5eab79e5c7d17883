-- Seeing one literal after another, and what holds when all are seen.
use Rattle.std.proofs.Common.{◌≡◌, ◌≢◌, ℕ, zero, suc, ◌+◌, ◌*◌, ◌<◌, ◌≤◌, ◌++◌, ◌⊎◌, inl, inr, Bool, true, false, not, List, [], ◌∷◌, length, get_or, take, drop, slice_get, Option, Some, None, IfSome, IfNone, refl, ap, sym, ◌∙◌, subst, arith, length-append, add-one}
use Rattle.std.specs.Prelude.{◌↔◌, IsNone}
use Rattle.std.specs.List.{All, Contains}
use Rattle.std.proofs.lemmas.Bool.{cases_eq}
use Rattle.std.proofs.lemmas.Option.{slice_get_within, same_Some}
use Rattle.std.proofs.lemmas.List.Elements.{Contains-push_cases}
use Rattle.clause_store.specs.declared.Lit.{Lit}
use Rattle.clause_store.specs.Clauses.{negated, InVars, Formula}
use Rattle.clause_store.proofs.GeneralLists.{Contains-nil, Contains-head, Contains-head_is, Contains-tail, Contains-cons_cases, Contains-from_map}
use Rattle.trail_core.specs.Course.{lits_of, Entry, Course, IsCourse, Holds, Fails, HasNoValue, HaveOnce}
use Rattle.trail_core.proofs.GeneralTrails.{not-both, free-not-holds, free-not-fails, level-at-most}
use Rattle.watch_lists.specs.Watching.{Watch}
use Rattle.watch_lists.specs.Watching.{Watching, numbers, IsGuarded, AreWatches, AreInStep, UnseenArePresent}
use Rattle.watch_lists.specs.Propagated.{IsConflict, IsSettled, IsSafe, AreSafe, Grows, Advances}
use Rattle.watch_lists.specs.Propagated.Grows.{none, more}
use Rattle.watch_lists.specs.Going.{AreHung, IsReady, IsPrepared, AreAnswered, watches_of}
use Rattle.watch_lists.specs.Links.{Chained}
use Rattle.trail_core.proofs.GeneralPlaces.{get-more, contains-get}
use Rattle.clause_store.proofs.GeneralLiterals.{negated-negated, lit_cases}
use Rattle.trail_core.specs.Standing.{AllFail, IsUnit}

-- parts of a list
drop-push : (n : ℕ) (es : List Entry) (e : Entry) → n ≤ length es → drop n (es ++ e ∷ []) ≡ drop n es ++ e ∷ []
drop-push zero es e h = refl
drop-push (suc n) [] e h = absurd (omega (arith, h))
drop-push (suc n) (x ∷ xs) e h = drop-push n xs e (omega (arith, h))

drop-first : (n : ℕ) (es : List Entry) (e : Entry) → slice_get es n ≡ Some e → Contains (drop n es) e
drop-first n [] e h = cc
drop-first zero (x ∷ xs) e h = Contains-head_is x xs e (same_Some x e h)
drop-first (suc n) (x ∷ xs) e h = drop-first n xs e h

drop-more : (n : ℕ) (es : List Entry) (e : Entry) → Contains (drop (suc n) es) e → Contains (drop n es) e
drop-more n [] e h = absurd (Contains-nil e h)
drop-more zero (x ∷ xs) e h = Contains-tail x xs e h
drop-more (suc n) (x ∷ xs) e h = drop-more n xs e h

take-last : (n : ℕ) (es : List Entry) (e f : Entry) → slice_get es n ≡ Some e → Contains (take (suc n) es) f → Contains (take n es) f ⊎ (f ≡ e)
take-last n [] e f at h = cc
take-last zero (x ∷ xs) e f at h = elim (Contains-cons_cases x [] f h) [
  | inl same ↦ inr (sym same ∙ same_Some x e at)
  | inr later ↦ absurd (Contains-nil f later)
]
take-last (suc n) (x ∷ xs) e f at h = elim (Contains-cons_cases x (take (suc n) xs) f h) [
  | inl same ↦ inl (Contains-head_is x (take n xs) f same)
  | inr later ↦ elim (take-last n xs e f at later) [
    | inl before ↦ inl (Contains-tail x (take n xs) f before)
    | inr same ↦ inr same
  ]
]

pub take-all : {A : Type 0} (n : ℕ) (es : List A) → length es ≤ n → take n es ≡ es
take-all zero [] h = refl
take-all (suc n) [] h = refl
take-all zero (x ∷ xs) h = absurd (omega (arith, h))
take-all (suc n) (x ∷ xs) h = ap (λ ys. x ∷ ys) (take-all n xs (omega (arith, h)))

-- a trail that has grown
pub grown-get : (clauses : List (List Lit)) (ns : List ℕ) (level : ℕ) (es fs : List Entry) (k : ℕ) (e : Entry) → Grows clauses ns level es fs → slice_get es k ≡ Some e → slice_get fs k ≡ Some e
grown-get clauses ns level es fs k e none h = h
grown-get clauses ns level es fs k e (more to f g w) h = get-more to f k e (grown-get clauses ns level es to k e g h)

grown-len : (clauses : List (List Lit)) (ns : List ℕ) (level : ℕ) (es fs : List Entry) → Grows clauses ns level es fs → length es ≤ length fs
grown-len clauses ns level es fs none = omega arith
grown-len clauses ns level es fs (more to f g w) = omega (arith, grown-len clauses ns level es to g, length-append to (f ∷ []))

grown-drop : (clauses : List (List Lit)) (ns : List ℕ) (level seen : ℕ) (es fs : List Entry) → seen ≤ length es → ((e : Entry) → Contains (drop seen es) e → e.level ≡ level) → Grows clauses ns level es fs → (e : Entry) → Contains (drop seen fs) e → e.level ≡ level
grown-drop clauses ns level seen es fs le h none e c = h e c
grown-drop clauses ns level seen es fs le h (more to f g w) e c =
    let fits : seen ≤ length to = omega (arith, le, grown-len clauses ns level es to g) in
    let P : List Entry → Type 0 = λ xs. Contains xs e in
    elim (Contains-push_cases (drop seen to) f e (subst P (drop-push seen to f fits) c)) [
      | inl old ↦ grown-drop clauses ns level seen es to le h g e old
      | inr new ↦ ap (λ (x : Entry). x.level) (sym new) ∙ w.4
    ]

pub unseen-grown : (clauses : List (List Lit)) (ns : List ℕ) (t u : Course) → Advances clauses ns t u → u.seen ≡ t.seen → t.seen ≤ length t.entries → UnseenArePresent t → UnseenArePresent u
unseen-grown clauses ns t u adv same le h = λ e c.
    let P : ℕ → Type 0 = λ n. Contains (drop n u.entries) e in
    grown-drop clauses ns t.level t.seen t.entries u.entries le h adv.grows e (subst P same c) ∙ sym adv.level

-- the first unseen literal is seen
module _ (clauses : List (List Lit)) (t : Course) (list : List Watch) (all : List (List ℕ)) (r : IsReady clauses t list all) (unseen : UnseenArePresent t) (e : Entry) (at : slice_get t.entries t.seen ≡ Some e) (done : AreAnswered t.entries list (negated e.lit)) where
  pub seen-lt : t.seen < length t.entries
  seen-lt = slice_get_within t.entries t.seen e at

  guard-seen : (a b : Lit) → IsGuarded t a b → (a ≡ negated e.lit → Holds t.entries b) → IsGuarded (record t { seen = t.seen + 1 }) a b
  guard-seen a b old new = λ f c q.
      let P : ℕ → Type 0 = λ n. Contains (take n t.entries) f in
      elim (take-last t.seen t.entries e f at (subst P add-one' c)) [
        | inl before ↦ old f before q
        | inr same ↦
            let a-is : a ≡ negated e.lit = sym (negated-negated a) ∙ ap negated (sym q) ∙ ap (λ (x : Entry). negated x.lit) same in
            let h = new a-is in
            let top : h.0.level ≤ t.level = level-at-most 0 t.entries t.level h.0 r.course.rises h.1 in
            let present : e.level ≡ t.level = unseen e (drop-first t.seen t.entries e at) in
            let f-level : f.level ≡ e.level = ap (λ (x : Entry). x.level) same in
            (h.0, h.1, h.2, omega (arith, top, present, f-level))
      ]
    where
      add-one' : t.seen + 1 ≡ suc t.seen
      add-one' = add-one t.seen

  pub ready-seen : IsReady clauses (record t { seen = t.seen + 1 }) list all
  ready-seen = record {
    course = record {
      named = r.course.named;
      once = r.course.once;
      rises = r.course.rises;
      seen_in = omega (arith, seen-lt);
    };
    room = r.room;
    named = r.named;
    watches = r.watches;
    in_step = λ w c. (
      guard-seen w.first w.second (r.in_step w c).0 (λ q. done w false c q),
      guard-seen w.second w.first (r.in_step w c).1 (λ q. done w true c q),
    );
    chained = r.chained;
  }

  pub unseen-seen : UnseenArePresent (record t { seen = t.seen + 1 })
  unseen-seen = λ f c.
      let q : t.seen + 1 ≡ suc t.seen = add-one t.seen in
      let P : ℕ → Type 0 = λ n. Contains (drop n t.entries) f in
      unseen f (drop-more t.seen t.entries f (subst P q c))

-- truth can be told
entry-of : (es : List Entry) (v : ℕ) → ((e : Entry) × Contains es e × (e.lit.var ≡ v)) ⊎ HasNoValue es v
entry-of [] v = inr (λ e c. absurd (Contains-nil e c))
entry-of (x ∷ xs) v = elim (cases_eq x.lit.var v) [
  | inl same ↦ inl (x, Contains-head x xs, same)
  | inr ne ↦ elim (entry-of xs v) [
    | inl found ↦ inl (found.0, Contains-tail x xs found.0 found.1, found.2)
    | inr free ↦ inr (λ e c. elim (Contains-cons_cases x xs e c) [
      | inl same ↦ λ q. ne (ap (λ (k : Entry). k.lit.var) same ∙ q)
      | inr later ↦ free e later
    ])
  ]
]

bit-cases : (a b : Bool) → (a ≡ b) ⊎ (a ≡ not b)
bit-cases true true = inl refl
bit-cases false false = inl refl
bit-cases true false = inr refl
bit-cases false true = inr refl

lit-is : (k l : Lit) → k.var ≡ l.var → k.positive ≡ l.positive → k ≡ l
lit-is k l v p = ap (λ (n : ℕ). record k { var = n }) v ∙ ap (λ (b : Bool). record l { positive = b }) p

pub truth-cases : (es : List Entry) (l : Lit) → Holds es l ⊎ (Fails es l ⊎ HasNoValue es l.var)
truth-cases es l = elim (entry-of es l.var) [
  | inl found ↦ elim (bit-cases found.0.lit.positive l.positive) [
    | inl same ↦ inl (found.0, found.1, lit-is found.0.lit l found.2 same)
    | inr apart ↦ inr (inl (found.0, found.1, lit-is found.0.lit (negated l) found.2 apart))
  ]
  | inr free ↦ inr (inr free)
]

-- where all is seen and in step, each attached clause is safe
pub safe-in-step : (clauses : List (List Lit)) (t : Course) (list : List Watch) → AreWatches clauses list → AreInStep list t → t.seen ≡ length t.entries → AreSafe clauses (numbers list) t.entries
safe-in-step clauses t list watches in_step seen id clause att =
    let found = Contains-from_map (λ (w : Watch). w.clause) list id att.0 in
    let w = found.0 in
    let k = watches w found.1 in
    let at : slice_get clauses id ≡ Some k.0 = (let P : ℕ → Type 0 = λ n. slice_get clauses n ≡ Some k.0 in subst P found.2 k.1) in
    let same : k.0 ≡ clause = same_Some k.0 clause (sym at ∙ att.1) in
    let Q : List Lit → Type 0 = λ xs. IsSafe t.entries xs in
    subst Q same (of-two k.0 w.first w.second k.2 k.3 k.4 (in_step w found.1).0 (in_step w found.1).1)
  where
    all-seen : (e : Entry) → Contains t.entries e → Contains (take t.seen t.entries) e
    all-seen e c =
        let P : List Entry → Type 0 = λ xs. Contains xs e in
        subst P (sym (take-all t.seen t.entries (omega (arith, seen)))) c

    of-two : (c : List Lit) (a b : Lit) → Contains c a → Contains c b → a ≢ b → IsGuarded t a b → IsGuarded t b a → IsSafe t.entries c
    of-two c a b ha hb ne ga gb = elim (truth-cases t.entries a) [
      | inl true-a ↦ inl (a, ha, true-a)
      | inr (inl false-a) ↦
          let f = ga false-a.0 (all-seen false-a.0 false-a.1) false-a.2 in
          inl (b, hb, (f.0, f.1, f.2))
      | inr (inr free-a) ↦ elim (truth-cases t.entries b) [
        | inl true-b ↦ inl (b, hb, true-b)
        | inr (inl false-b) ↦
            let f = gb false-b.0 (all-seen false-b.0 false-b.1) false-b.2 in
            inl (a, ha, (f.0, f.1, f.2))
        | inr (inr free-b) ↦ inr (a, b, ha, hb, ne, free-a, free-b)
      ]
    ]

-- where each attached clause is safe, none is false and none is unit
pub settled-from-safe : (clauses : List (List Lit)) (ns : List ℕ) (es : List Entry) → HaveOnce es → AreSafe clauses ns es → IsSettled clauses ns es
settled-from-safe clauses ns es once safe id clause att = (not-false (safe id clause att), not-unit (safe id clause att))
  where
    not-false : IsSafe es clause → AllFail es clause → ⊥
    not-false (inl (l, has, holds)) fail = not-both es l once holds (fail l has)
    not-false (inr (l, m, hl, hm, ne, fl, fm)) fail = free-not-fails es l fl (fail l hl)

    not-unit : IsSafe es clause → IsUnit es clause → ⊥
    not-unit (inl (l, has, holds)) (u, hu, fu, others) = elim (lit_cases l u) [
      | inl same ↦ free-not-holds es u fu (let P : Lit → Type 0 = λ k. Holds es k in subst P same.0 holds)
      | inr apart ↦ not-both es l once holds (others l has apart.0)
    ]
    not-unit (inr (l, m, hl, hm, ne, fl, fm)) (u, hu, fu, others) = elim (lit_cases l u) [
      | inl same ↦ free-not-fails es m fm (others m hm (λ e. ne (same.0 ∙ sym e)))
      | inr apart ↦ free-not-fails es l fl (others l hl apart.0)
    ]

pub exact-none : (o : Option ℕ) (clauses : List (List Lit)) (ns : List ℕ) (es : List Entry) → IfNone o (IsSettled clauses ns es) → IfSome o (λ id. IsConflict clauses ns es id) → IsNone o ↔ IsSettled clauses ns es
exact-none None clauses ns es h k = (λ _. h, λ _. refl)
exact-none (Some id) clauses ns es h k = (λ e. cc, λ s. absurd ((s id k.0 k.1).0 k.2))

-- the literal of an entry
entry-lit : (es : List Entry) (k : ℕ) (d : Lit) → k < length (lits_of es) → (e : Entry) × (slice_get es k ≡ Some e) × (get_or (lits_of es) k d ≡ e.lit)
entry-lit [] k d h = absurd (omega (arith, h))
entry-lit (x ∷ xs) zero d h = (x, refl, refl)
entry-lit (x ∷ xs) (suc k) d h = entry-lit xs k d (omega (arith, h))

pub next-lit : (es : List Entry) (lits : List Lit) (s k : ℕ) (l d : Lit) → lits ≡ lits_of es → k ≡ s → k < length lits → l ≡ negated (get_or lits k d) → (e : Entry) × (slice_get es s ≡ Some e) × (l ≡ negated e.lit)
next-lit es lits s k l d le ke lt is =
    let P : List Lit → Type 0 = λ xs. (k < length xs) × (l ≡ negated (get_or xs k d)) in
    let q = subst P le (lt, is) in
    let f = entry-lit es k d q.0 in
    let Q : ℕ → Type 0 = λ n. slice_get es n ≡ Some f.0 in
    (f.0, subst Q ke f.1, q.1 ∙ ap negated f.2)

pub next-fails : (es : List Entry) (e : Entry) (k : ℕ) (l : Lit) → slice_get es k ≡ Some e → l ≡ negated e.lit → Fails es l
next-fails es e k l at is = (e, contains-get es k e at, sym (negated-negated e.lit) ∙ ap negated (sym is))

-- where a call begins
pub ready-at : (f : Formula) (t : Course) (v : Watching) (vars : ℕ) (ids : List ℕ) (ch : Chained) → record { vars = vars; list = watches_of ids ch.lits } ≡ v → AreHung vars ids ch → All (All (InVars f.vars)) f.clauses → v.vars ≡ f.vars → t.vars ≡ f.vars → IsCourse t → AreWatches f.clauses v.list → AreInStep v.list t → IsPrepared f.clauses t ids ch
ready-at f t v vars ids ch is hung named over over' course watches in_step =
    let list-is : v.list ≡ watches_of ids ch.lits = sym (ap (λ (x : Watching). x.list) is) in
    let vars-is : vars ≡ t.vars = ap (λ (x : Watching). x.vars) is ∙ over ∙ sym over' in
    let P : ℕ → Type 0 = λ n. length ch.lists ≡ 2 * n + 3 in
    let N : ℕ → Type 0 = λ n. All (All (InVars n)) f.clauses in
    let W : List Watch → Type 0 = λ xs. AreWatches f.clauses xs in
    let S : List Watch → Type 0 = λ xs. AreInStep xs t in
    record {
      pairs = hung.pairs;
      ready = record {
        course = course;
        room = subst P vars-is hung.room;
        named = subst N (sym over') named;
        watches = subst W list-is watches;
        in_step = subst S list-is in_step;
        chained = hung.chained;
      };
    }

-- where it ends
pub hung-at : (clauses : List (List Lit)) (t : Course) (vars : ℕ) (ids : List ℕ) (ch : Chained) → IsPrepared clauses t ids ch → vars ≡ t.vars → AreHung vars ids ch
hung-at clauses t vars ids ch p same =
    let P : ℕ → Type 0 = λ n. length ch.lists ≡ 2 * n + 3 in
    record { room = subst P (sym same) p.ready.room; pairs = p.pairs; chained = p.ready.chained }

-- where a call ends
pub safe-none : (o : Option ℕ) (clauses : List (List Lit)) (ns : List ℕ) (t : Course) (list : List Watch) (all : List (List ℕ)) → IsReady clauses t list all → numbers list ≡ ns → IfNone o (t.seen ≡ length t.entries) → IfNone o (AreSafe clauses ns t.entries)
safe-none None clauses ns t list all r same h =
    let P : List ℕ → Type 0 = λ xs. AreSafe clauses xs t.entries in
    subst P same (safe-in-step clauses t list r.watches r.in_step h)
safe-none (Some id) clauses ns t list all r same h = tt

pub settled-none : (o : Option ℕ) (clauses : List (List Lit)) (ns : List ℕ) (es : List Entry) → HaveOnce es → IfNone o (AreSafe clauses ns es) → IfNone o (IsSettled clauses ns es)
settled-none None clauses ns es once h = settled-from-safe clauses ns es once h
settled-none (Some id) clauses ns es once h = tt
