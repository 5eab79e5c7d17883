-- From a draft to the clause of a cut.
use Rattle.std.proofs.Common.{◌≡◌, ◌≢◌, ℕ, ◌+◌, ◌-◌, ◌<◌, ◌≤◌, ◌⊎◌, inl, inr, Bool, true, false, cond, List, [], ◌∷◌, ◌++◌, length, get_or, count_by, slice_get, Some, refl, ap, sym, ◌∙◌, subst, arith}
use Rattle.std.specs.List.{All, Contains}
use Rattle.std.proofs.lemmas.Bool.{cases_eq}
use Rattle.std.proofs.lemmas.List.{get_or_default}
use Rattle.std.proofs.lemmas.Option.{same_Some, slice_get_within}
use Rattle.std.proofs.lemmas.List.Sums.{count_by-le-length}
use Rattle.std.proofs.lemmas.List.Elements.{Contains-push, Contains-push_cases, Contains-append_left}
use Rattle.clause_store.specs.declared.Lit.{Lit}
use Rattle.clause_store.specs.Clauses.{negated, InVars}
use Rattle.clause_store.specs.Propagation.{IsImplied, negations}
use Rattle.clause_store.specs.Propagation.IsImplied.{assumed}
use Rattle.clause_store.proofs.GeneralLists.{Contains-nil}
use Rattle.trail_core.specs.Course.{Entry, Course, IsCourse, Fails}
use Rattle.trail_core.proofs.GeneralTrails.{once-same}
use Rattle.conflict_cut.specs.Cut.{AreReasons, FailsAt, NameOnce, IsGreatest, IsAsserting, HasPresent}
use Rattle.conflict_cut.specs.Draft.{Drafting, IsMarked, IsMarkedAt, IsClean, is_open, IsLow, IsUnderway, IsTaken, Suffice, IsWalking, IsDrawn}
use Rattle.conflict_cut.proofs.Counting.{count-cons, count-some, count-one}
use Rattle.trail_core.proofs.GeneralPlaces.{contains-get, get-contained}
use Rattle.conflict_cut.proofs.GeneralLevels.{zero-implied}
use Rattle.conflict_cut.proofs.Taking.{open-yes, open-unmarked, name-once-push}
use Rattle.conflict_cut.proofs.Walking.{entry-in, kept-apart}
use Rattle.clause_store.proofs.GeneralLiterals.{negated-negated, Contains-negations}
use Rattle.trail_core.specs.Standing.{AllFail}

-- the greatest level
module _ (es : List Entry) (lits : List Lit) (i best : ℕ) (l : Lit) (here : slice_get lits i ≡ Some l) (r : ℕ) (f : FailsAt es l r) (above : 1 ≤ r) where
  abbrev Looked : ℕ → Lit → Type 0
  Looked n m = (k : ℕ) × (k < n) × (slice_get lits k ≡ Some m)

  greatest-with : (top : ℕ) → best ≤ top → r ≤ top → IsGreatest es (λ m. (k : ℕ) × (k < i) × (slice_get lits k ≡ Some m)) best → ((top ≡ 0) ⊎ ((m : Lit) × Looked (i + 1) m × FailsAt es m top)) → IsGreatest es (λ m. (k : ℕ) × (k < i + 1) × (slice_get lits k ≡ Some m)) top
  greatest-with top le le' g one' = record {
    each = λ m k. elim (cases_eq k.0 i) [
      | inl same ↦
          let P : ℕ → Type 0 = λ j. slice_get lits j ≡ Some m in
          let Q : Lit → Type 0 = λ x. FailsAt es x r in
          (r, subst Q (same_Some l m (sym here ∙ subst P same k.2)) f, above, le')
      | inr ne ↦
          let old = g.each m (k.0, (let lt = k.1 in omega (arith, lt, ne)), k.2) in
          (old.0, old.1, old.2, (let lt = old.3 in omega (arith, lt, le)))
    ];
    one = one';
  }

  pub greatest-more : best < r → IsGreatest es (λ m. (k : ℕ) × (k < i) × (slice_get lits k ≡ Some m)) best → IsGreatest es (λ m. (k : ℕ) × (k < i + 1) × (slice_get lits k ≡ Some m)) r
  greatest-more lt g = greatest-with r (omega (arith, lt)) (omega arith) g (inr (l, (i, omega arith, here), f))

  pub greatest-stays : r ≤ best → IsGreatest es (λ m. (k : ℕ) × (k < i) × (slice_get lits k ≡ Some m)) best → IsGreatest es (λ m. (k : ℕ) × (k < i + 1) × (slice_get lits k ≡ Some m)) best
  greatest-stays le g = greatest-with best (omega arith) le g (elim g.one [
    | inl z ↦ inl z
    | inr o ↦ inr (o.0, (o.1.0, (let lt = o.1.1 in omega (arith, lt)), o.1.2), o.2)
  ])

pub greatest-all : (es : List Entry) (lits : List Lit) (n best : ℕ) → length lits ≤ n → IsGreatest es (λ m. (k : ℕ) × (k < n) × (slice_get lits k ≡ Some m)) best → IsGreatest es (λ m. Contains lits m) best
greatest-all es lits n best le g = record {
  each = λ m c. let at = get-contained lits m c in g.each m (at.0, (let lt = slice_get_within lits at.0 m at.1 in omega (arith, lt, le)), at.1);
  one = elim g.one [
    | inl z ↦ inl z
    | inr o ↦ inr (o.0, contains-get lits o.1.0 o.0 o.1.2, o.2)
  ];
}

-- at the start
count-none : {A : Type 0} (p : A → Bool) (xs : List A) → ((x : A) → p x ≡ false) → count_by p xs ≡ 0
count-none p [] h = refl
count-none p (x ∷ xs) h =
    let zero' : ◌≡◌ {A = ℕ} (cond (p x) 1 0) 0 = ap (λ (b : Bool). cond b 1 0) (h x) in
    omega (arith, zero', count-cons p x xs, count-none p xs h)

pub begun : (t : Course) (d : Drafting) → IsCourse t → length d.marks ≡ t.vars → IsClean d.marks → d.lits ≡ [] → IsUnderway t 0 d
begun t d course len clean empty = record {
  course = course;
  marks_len = len;
  room = (let none : length d.lits ≡ 0 = ap (λ (ls : List Lit). length ls) empty in omega (arith, none));
  kept = λ l c. absurd (let P : List Lit → Type 0 = λ ls. Contains ls l in Contains-nil l (subst P empty c));
  once = subst NameOnce (sym empty) tt;
  marked = λ p m. (let bad : true ≡ false = sym m ∙ clean p in cc);
  counted = sym (count-none (is_open d.marks t.level) t.entries (λ e. open-unmarked d.marks t.level e (clean (e.lit.var - 1))));
}

pub conflict-suffices : (clauses : List (List Lit)) (t : Course) (marks : List Bool) (id : ℕ) (cl : List Lit) → IsCourse t → AreReasons clauses t.entries → slice_get clauses id ≡ Some cl → AllFail t.entries cl → ((l : Lit) → Contains cl l → IsTaken t.entries marks l) → Suffice clauses t.entries marks
conflict-suffices clauses t marks id cl course reasons get fails taken start h = (
  cl,
  contains-get clauses id cl get,
  λ l c.
      let R : Lit → Type 0 = λ x. IsImplied clauses start x in
      elim (taken l c) [
        | inl mk ↦
            let f = fails l c in
            let V : ℕ → Type 0 = λ v. IsMarked marks v in
            subst R f.2 (h f.0 f.1 (subst V (sym (ap (λ (x : Lit). x.var) f.2)) mk))
        | inr z ↦
            let g = get-contained t.entries z.0 z.1 in
            subst R z.2 (zero-implied clauses t.entries t.level start reasons course.rises (g.0 + 1) g.0 z.0 (omega arith) g.1 z.3)
      ],
)

pub at-end : (clauses : List (List Lit)) (t : Course) (n : ℕ) (d : Drafting) → IsUnderway t n d → n ≢ 0 → Suffice clauses t.entries d.marks → IsWalking clauses t (length t.entries) n d
at-end clauses t n d u ne suffice = record {
  underway = u;
  some = omega (arith, ne);
  passed = λ k e le at. absurd (let lt = slice_get_within t.entries k e at in omega (arith, lt, le));
  suffice = suffice;
}

-- at the end
module _ (clauses : List (List Lit)) (t : Course) (d : Drafting) (lits : List Lit) (course : IsCourse t) (len : length d.marks ≡ t.vars) (once : NameOnce lits) (fail : AllFail t.entries lits) (suffice : Suffice clauses t.entries d.marks) (each : (p : ℕ) → IsMarkedAt d.marks p → (e : Entry) × Contains t.entries e × (e.lit.var ≡ p + 1) × Contains lits (negated e.lit)) (named-entry : (e : Entry) → Contains t.entries e → InVars t.vars e.lit) where
  drawn-named : All (InVars t.vars) lits
  drawn-named i z lt =
      let f = fail (get_or lits i z) (i, lt, get_or_default lits i (get_or lits i z) z lt) in
      let V : ℕ → Type 0 = λ v. (1 ≤ v) × (v ≤ t.vars) in
      subst V (ap (λ (x : Lit). x.var) f.2) (named-entry f.0 f.1)

  pub drawn : IsDrawn clauses t (record d { lits = lits })
  drawn = record {
    marks_len = len;
    named = drawn-named;
    once = once;
    all_fail = fail;
    follows = suffice (negations lits) (λ e c m.
        let o = each (e.lit.var - 1) m in
        let e-in = named-entry e c in
        let same : o.0 ≡ e = once-same t.entries o.0 e course.once o.1 c (let q = o.2 in omega (arith, q, e-in.0)) in
        let P : Lit → Type 0 = λ l. Contains (negations lits) l in
        let Q : Lit → Type 0 = λ l. IsImplied clauses (negations lits) l in
        subst Q (ap (λ (x : Entry). x.lit) same)
        (assumed o.0.lit (subst P (negated-negated o.0.lit) (Contains-negations lits (negated o.0.lit) o.3))));
    marked = λ p m. let o = each p m in (negated o.0.lit, o.3, o.2);
  }

low-fails : (t : Course) (l : Lit) → IsLow t l → Fails t.entries l
low-fails t l h = (h.1.0, h.1.1, h.1.2)

-- no literal of the present level is met
pub drawn-none : (clauses : List (List Lit)) (t : Course) (n : ℕ) (d : Drafting) → IsUnderway t n d → n ≡ 0 → Suffice clauses t.entries d.marks → IsDrawn clauses t d
drawn-none clauses t n d u z suffice =
    drawn clauses t d d.lits u.course u.marks_len u.once (λ l c. low-fails t l (u.kept l c).1) suffice
    (λ p m.
    let o = u.marked p m in (
      o.0,
      o.1,
      o.2,
      elim o.3 [
        | inl level ↦
            let e-in = entry-in t n d u o.0 o.1 in
            let P : ℕ → Type 0 = λ k. IsMarkedAt d.marks k in
            let on : IsMarked d.marks o.0.lit.var = subst P (let q = o.2 in omega (arith, q)) m in
            let least = count-some (is_open d.marks t.level) t.entries o.0 o.1 (open-yes d.marks t.level o.0 on level) in
            absurd (omega (arith, least, u.counted, z))
        | inr c ↦ c
      ],
    ))
    (entry-in t n d u)

pub asserting-none : (clauses : List (List Lit)) (t : Course) (n : ℕ) (d : Drafting) (id : ℕ) (cl : List Lit) (level : ℕ) → IsUnderway t n d → n ≡ 0 → 1 ≤ t.level → slice_get clauses id ≡ Some cl → ((l : Lit) → Contains cl l → IsTaken t.entries d.marks l) → HasPresent clauses t id → IsAsserting t d.lits level
asserting-none clauses t n d id cl level u z up get taken present =
    let same : present.0 ≡ cl = same_Some present.0 cl (sym present.1 ∙ get) in
    let l = present.2.0 in
    let f = present.2.2 in
    let P : List Lit → Type 0 = λ c. Contains c present.2.0 in
    absurd (elim (taken present.2.0 (subst P same present.2.1)) [
      | inl mk ↦
          let V : ℕ → Type 0 = λ v. IsMarked d.marks v in
          let on : IsMarked d.marks f.0.lit.var = subst V (sym (ap (λ (x : Lit). x.var) f.2)) mk in
          let least = count-some (is_open d.marks t.level) t.entries f.0 f.1 (open-yes d.marks t.level f.0 on f.3) in
          omega (arith, least, u.counted, z)
      | inr low ↦
          let one : low.0 ≡ f.0 = once-same t.entries low.0 f.0 u.course.once low.1 f.1 (ap (λ (x : Lit). x.var) (low.2 ∙ sym f.2)) in
          let levels : low.0.level ≡ f.0.level = ap (λ (x : Entry). x.level) one in
          omega (arith, levels, low.3, f.3, up)
    ])

-- one literal of the present level is left
module _ (clauses : List (List Lit)) (t : Course) (at : ℕ) (d : Drafting) (w : IsWalking clauses t at 1 d) (e : Entry) (has : Contains t.entries e) (level : e.level ≡ t.level) (on : IsMarked d.marks e.lit.var) where
  u : IsUnderway t 1 d
  u = w.underway

  abbrev all : List Lit
  all = d.lits ++ negated e.lit ∷ []

  apart : (m : Lit) → Contains d.lits m → m.var ≢ e.lit.var
  apart m c = kept-apart t 1 d u e has level m c

  pub room-one : length d.lits < length d.marks
  room-one = omega (arith, w.underway.room, count_by-le-length (λ (b : Bool). b) d.marks)

  fails-one : AllFail t.entries all
  fails-one m c = elim (Contains-push_cases d.lits (negated e.lit) m c) [
    | inl old ↦ low-fails t m (u.kept m old).1
    | inr same ↦ (e, has, sym (negated-negated e.lit) ∙ ap negated same)
  ]

  -- a marked entry of the present level is this one
  the-one : (f : Entry) → Contains t.entries f → IsMarked d.marks f.lit.var → f.level ≡ t.level → f ≡ e
  the-one f hf mk lf =
      let a = get-contained t.entries f hf in
      let b = get-contained t.entries e has in
      let same = count-one (is_open d.marks t.level) t.entries a.0 b.0 f e (omega (arith, w.underway.counted)) a.1 (open-yes d.marks t.level f mk lf) b.1 (open-yes d.marks t.level e on level) in
      let P : ℕ → Type 0 = λ k. slice_get t.entries k ≡ Some f in
      same_Some f e (sym (subst P same a.1) ∙ b.1)

  pub drawn-one : IsDrawn clauses t (record d { lits = d.lits ++ negated e.lit ∷ [] })
  drawn-one =
      drawn clauses t d all u.course u.marks_len
      (name-once-push d.lits (negated e.lit) u.once (λ m c. apart m c))
      fails-one w.suffice
      (λ p m.
      let o = u.marked p m in (
        o.0,
        o.1,
        o.2,
        elim o.3 [
          | inl lo ↦
              let P : ℕ → Type 0 = λ k. IsMarkedAt d.marks k in
              let mk : IsMarked d.marks o.0.lit.var = subst P (let q = o.2 in omega (arith, q)) m in
              let Q : Entry → Type 0 = λ x. Contains all (negated x.lit) in
              subst Q (sym (the-one o.0 o.1 mk lo)) (Contains-push d.lits (negated e.lit))
          | inr c ↦ Contains-append_left d.lits (negated e.lit ∷ []) (negated o.0.lit) c
        ],
      ))
      (entry-in t 1 d u)

  pub asserting-one : (top : ℕ) → IsGreatest t.entries (λ l. Contains d.lits l) top → IsAsserting t (d.lits ++ negated e.lit ∷ []) top
  asserting-one top g = record {
    lit = negated e.lit;
    has = Contains-push d.lits (negated e.lit);
    present = (e, has, sym (negated-negated e.lit), level);
    others = record {
      each = λ m h. elim (Contains-push_cases d.lits (negated e.lit) m h.0) [
        | inl old ↦ g.each m old
        | inr same ↦ absurd (h.1 (sym same))
      ];
      one = elim g.one [
        | inl z ↦ inl z
        | inr o ↦ inr (o.0, (Contains-append_left d.lits (negated e.lit ∷ []) o.0 o.1, λ q. apart o.0 o.1 (ap (λ (x : Lit). x.var) q)), o.2)
      ];
    };
  }
