-- Going back along the trail.
use Rattle.std.proofs.Common.{◌≡◌, ◌≢◌, ℕ, zero, suc, ◌+◌, ◌-◌, ◌<◌, ◌≤◌, ◌⊎◌, inl, inr, Bool, true, false, cond, List, [], ◌∷◌, length, get_or, set, count_by, take, slice_get, Some, None, refl, ap, sym, ◌∙◌, subst, arith, length-set, get_or-set_other, get_or-set_same}
use Rattle.std.specs.List.{Contains}
use Rattle.std.proofs.lemmas.Bool.{cases_eq, cases_lt}
use Rattle.std.proofs.lemmas.Option.{same_Some, slice_get_within}
use Rattle.std.proofs.lemmas.List.Sums.{sum_by-set}
use Rattle.std.proofs.lemmas.List.Elements.{All-contains}
use Rattle.clause_store.specs.declared.Lit.{Lit}
use Rattle.clause_store.specs.Clauses.{negated, InVars}
use Rattle.clause_store.specs.Propagation.{IsImplied}
use Rattle.clause_store.specs.Propagation.IsImplied.{forced}
use Rattle.trail_core.specs.Course.{Entry, Course, HaveOnce, Fails, lits_of}
use Rattle.trail_core.proofs.GeneralTrails.{once-same, level-at-most, levels-along, decided-first}
use Rattle.conflict_cut.specs.Cut.{AreReasons}
use Rattle.conflict_cut.specs.Draft.{Drafting, IsMarked, IsMarkedAt, StayMarked, is_open, IsUnderway, IsTaken, Suffice, IsWalking}
use Rattle.conflict_cut.proofs.Counting.{count-some, count-exists, count-two, count-more}
use Rattle.trail_core.proofs.GeneralPlaces.{contains-get, get-contained}
use Rattle.conflict_cut.proofs.GeneralLevels.{take-get, zero-implied}
use Rattle.conflict_cut.proofs.Taking.{open-yes, open-unmarked, open-parts, open-far}
use Rattle.clause_store.proofs.GeneralLiterals.{lit_cases}
use Rattle.trail_core.specs.Standing.{OthersFail}

-- a variable stands at one place
pub once-index : (es : List Entry) (j k : ℕ) (x y : Entry) → HaveOnce es → slice_get es j ≡ Some x → slice_get es k ≡ Some y → x.lit.var ≡ y.lit.var → j ≡ k
once-index [] j k x y once at at' q = cc
once-index (z ∷ zs) zero zero x y once at at' q = refl
once-index (z ∷ zs) zero (suc k) x y once at at' q =
    absurd (once.0 y (contains-get zs k y at') (sym q ∙ sym (ap (λ (e : Entry). e.lit.var) (same_Some z x at))))
once-index (z ∷ zs) (suc j) zero x y once at at' q =
    absurd (once.0 x (contains-get zs j x at) (q ∙ sym (ap (λ (e : Entry). e.lit.var) (same_Some z y at'))))
once-index (z ∷ zs) (suc j) (suc k) x y once at at' q = ap (λ (i : ℕ). suc i) (once-index zs j k x y once.1 at at' q)

pub not-true : (b : Bool) → (b ≡ true → ⊥) → b ≡ false
not-true true h = absurd (h refl)
not-true false h = refl

-- what is left where a mark is taken back
pub unmark-only : (marks : List Bool) (v p : ℕ) → v < length marks → IsMarkedAt (set marks v false) p → (p ≢ v) × IsMarkedAt marks p
unmark-only marks v p lt h = elim (cases_eq p v) [
  | inl same ↦
      let P : ℕ → Type 0 = λ k. IsMarkedAt (set marks v false) k in
      let on : true ≡ false = sym (subst P same h) ∙ get_or-set_same marks v false false lt in cc
  | inr ne ↦ (ne, rw get_or-set_other at h)
]

pub unmark-else : (marks : List Bool) (v p : ℕ) → p ≢ v → IsMarkedAt marks p → IsMarkedAt (set marks v false) p
unmark-else marks v p ne h = rw get_or-set_other h

module _ (t : Course) (n : ℕ) (d : Drafting) (u : IsUnderway t n d) where
  pub entry-in : (e : Entry) → Contains t.entries e → InVars t.vars e.lit
  entry-in e has = All-contains (λ (x : Entry). InVars t.vars x.lit) t.entries e u.course.named has

  pub places-apart : (e f : Entry) → Contains t.entries e → Contains t.entries f → f.lit.var ≢ e.lit.var → f.lit.var - 1 ≢ e.lit.var - 1
  places-apart e f he hf ne =
      let e-in = entry-in e he in
      let f-in = entry-in f hf in
      λ q. ne (omega (arith, q, e-in.0, f-in.0))

  -- a literal that is kept isn't of the present level
  pub kept-apart : (e : Entry) → Contains t.entries e → e.level ≡ t.level → (l : Lit) → Contains d.lits l → l.var ≢ e.lit.var
  kept-apart e has level l c q =
      let low = (u.kept l c).1 in
      let f = low.1 in
      let same : f.0 ≡ e = once-same t.entries f.0 e u.course.once f.1 has (ap (λ (k : Lit). k.var) f.2 ∙ q) in
      let levels : f.0.level ≡ e.level = ap (λ (x : Entry). x.level) same in
      omega (arith, levels, level, f.3, low.3)

  module _ (e : Entry) (has : Contains t.entries e) (on : IsMarked d.marks e.lit.var) (level : e.level ≡ t.level) where
    abbrev place : ℕ
    place = e.lit.var - 1

    abbrev less : List Bool
    less = set d.marks (e.lit.var - 1) false

    place-in : e.lit.var - 1 < length d.marks
    place-in = let there = entry-in e has in omega (arith, there.0, there.1, u.marks_len)

    one-less : count_by (λ b. b) less + 1 ≡ count_by (λ b. b) d.marks
    one-less =
        let law : count_by (λ b. b) less + cond (get_or d.marks place false) 1 0 ≡ count_by (λ b. b) d.marks + 0 =
        sum_by-set (λ (b : Bool). cond b 1 0) d.marks place false false place-in in
        let one : ◌≡◌ {A = ℕ} (cond (get_or d.marks place false) 1 0) 1 = ap (λ (b : Bool). cond b 1 0) on in
        omega (arith, law, one)

    pub unmarked-place : get_or (set d.marks (e.lit.var - 1) false) (e.lit.var - 1) false ≡ false
    unmarked-place = get_or-set_same d.marks place false false place-in

    pub open-less : count_by (is_open d.marks t.level) t.entries ≡ count_by (is_open (set d.marks (e.lit.var - 1) false) t.level) t.entries + 1
    open-less =
        count-more (is_open less t.level) (is_open d.marks t.level) t.entries e u.course.once has
        (open-unmarked less t.level e unmarked-place)
        (open-yes d.marks t.level e on level)
        (λ f c ne. open-far d.marks place t.level false f (places-apart e f has c ne))

    -- an entry of the present level is taken out
    pub take-out : IsUnderway t (n - 1) (record d { marks = set d.marks (e.lit.var - 1) false })
    take-out = record {
      course = u.course;
      marks_len = rw length-set u.marks_len;
      room = omega (arith, one-less, open-less, u.room, u.counted);
      kept = λ l c.
          let k = u.kept l c in
          let f = k.1.1 in
          let var : f.0.lit.var ≡ l.var = ap (λ (x : Lit). x.var) f.2 in
          let ne : l.var - 1 ≢ place = (let V : ℕ → Type 0 = λ v. v - 1 ≢ e.lit.var - 1 in subst V var (places-apart e f.0 has f.1 (λ q. kept-apart e has level l c (sym var ∙ q)))) in
          (unmark-else d.marks place (l.var - 1) ne k.0, k.1);
      once = u.once;
      marked = λ p m. u.marked p (unmark-only d.marks place p place-in m).1;
      counted = omega (arith, open-less, u.counted);
    }

-- at the last marked entry
module _ (clauses : List (List Lit)) (t : Course) (at n : ℕ) (d : Drafting) (w : IsWalking clauses t (at + 1) n d) (reasons : AreReasons clauses t.entries) (e : Entry) (here : slice_get t.entries at ≡ Some e) (on : IsMarked d.marks e.lit.var) where
  has-here : Contains t.entries e
  has-here = contains-get t.entries at e here

  before : (j : ℕ) (f : Entry) → slice_get t.entries j ≡ Some f → is_open d.marks t.level f ≡ true → j ≤ at
  before j f get o = elim (cases_lt at j) [
    | inl gt ↦ (let bad : true ≡ false = sym o ∙ w.passed j f (omega (arith, gt)) get in cc)
    | inr le ↦ le
  ]

  -- it is of the present level
  pub present : e.level ≡ t.level
  present =
      let o = count-exists (is_open d.marks t.level) t.entries (let s = w.some in omega (arith, s, w.underway.counted)) in
      let le = before o.0 o.1 o.2.0 o.2.1 in
      let level = (open-parts d.marks t.level o.1 o.2.1).1 in
      omega (arith, level, levels-along 0 t.entries t.level o.0 at o.1 e w.underway.course.rises le o.2.0 here, level-at-most 0 t.entries t.level e w.underway.course.rises has-here)

  module _ (more : 1 < n) where
    another : (j : ℕ) × (f : Entry) × (j < at) × (slice_get t.entries j ≡ Some f) × (is_open d.marks t.level f ≡ true)
    another =
        let o = count-two (is_open d.marks t.level) t.entries at (omega (arith, more, w.underway.counted)) in
        let le = before o.0 o.1 o.3.0 o.3.1 in
        (o.0, o.1, (let ne = o.2 in omega (arith, le, ne)), o.3.0, o.3.1)

    pub implied-here : e.reason ≡ None → ⊥
    implied-here none =
        let o = another in
        let level = (open-parts d.marks t.level o.1 o.4).1 in
        let top = present in
        omega (arith, level, top, decided-first 0 t.entries t.level o.0 at o.1 e w.underway.course.rises o.2 o.3 here none)

    module _ (id : ℕ) (by : e.reason ≡ Some id) where
      pub reason-there : id < length clauses
      reason-there = let r = reasons at e id here by in slice_get_within clauses id r.0 r.1

      module _ (cl : List Lit) (get : slice_get clauses id ≡ Some cl) where
        reason : Contains cl e.lit × OthersFail (take at t.entries) cl e.lit
        reason =
            let r = reasons at e id here by in
            let P : List Lit → Type 0 = λ c. Contains c e.lit × OthersFail (take at t.entries) c e.lit in
            subst P (same_Some r.0 cl (sym r.1 ∙ get)) (r.2, r.3)

        -- the others stand before
        pub others-before : (l : Lit) → Contains cl l → l ≢ e.lit → (j : ℕ) × (f : Entry) × (j < at) × (slice_get t.entries j ≡ Some f) × (f.lit ≡ negated l)
        others-before l c ne =
            let f = reason.1 l c ne in
            let there = take-get at t.entries f.0 f.1 in
            (there.0, f.0, there.1, there.2, f.2)

        pub fails-or-marked : (l : Lit) → Contains cl l → IsMarked d.marks l.var ⊎ Fails t.entries l
        fails-or-marked l c = elim (lit_cases l e.lit) [
          | inl same ↦ inl (let P : Lit → Type 0 = λ x. IsMarked d.marks x.var in subst P (sym same.0) on)
          | inr apart ↦ (let o = others-before l c apart.0 in inr (o.1, contains-get t.entries o.0 o.1 o.3, o.4))
        ]

        -- every literal of the reason stands at this place or before
        not-after : (l : Lit) → Contains cl l → (j : ℕ) × (f : Entry) × (j ≤ at) × (slice_get t.entries j ≡ Some f) × (f.lit.var ≡ l.var)
        not-after l c = elim (lit_cases l e.lit) [
          | inl same ↦ (at, e, omega arith, here, ap (λ (x : Lit). x.var) (sym same.0))
          | inr apart ↦ (let o = others-before l c apart.0 in (o.0, o.1, (let lt = o.2 in omega (arith, lt)), o.3, ap (λ (x : Lit). x.var) o.4))
        ]

        module _ (n1 : ℕ) (d1 : Drafting) (u : IsUnderway t n1 d1) (taken : (l : Lit) → Contains cl l → IsTaken t.entries d1.marks l) (stay : StayMarked d.marks d1.marks) (only : (p : ℕ) → IsMarkedAt d1.marks p → IsMarkedAt d.marks p ⊎ ((l : Lit) × Contains cl l × (l.var ≡ p + 1))) where
          abbrev less-marks : List Bool
          less-marks = set d1.marks (e.lit.var - 1) false

          on1 : IsMarked d1.marks e.lit.var
          on1 = stay (e.lit.var - 1) on

          pub left : IsUnderway t (n1 - 1) (record d1 { marks = set d1.marks (e.lit.var - 1) false })
          left = take-out t n1 d1 u e has-here on1 present

          -- an entry at another place stays marked
          still : (j : ℕ) (f : Entry) → j ≢ at → slice_get t.entries j ≡ Some f → IsMarked d1.marks f.lit.var → IsMarked less-marks f.lit.var
          still j f ne at-j m =
              unmark-else d1.marks (e.lit.var - 1) (f.lit.var - 1)
              (places-apart t n1 d1 u e f has-here (contains-get t.entries j f at-j) (λ q. ne (once-index t.entries j at f e u.course.once at-j here q))) m

          pub some-left : 1 ≤ n1 - 1
          some-left =
              let o = another in
              let parts = open-parts d.marks t.level o.1 o.4 in
              let m : IsMarked less-marks o.1.lit.var = still o.0 o.1 (let lt = o.2 in omega (arith, lt)) o.3 (stay (o.1.lit.var - 1) parts.0) in
              let least = count-some (is_open less-marks t.level) t.entries o.1 (contains-get t.entries o.0 o.1 o.3) (open-yes less-marks t.level o.1 m parts.1) in
              let counted = left.counted in
              omega (arith, least, counted)

          passed-here : (k : ℕ) (f : Entry) → at ≤ k → slice_get t.entries k ≡ Some f → is_open less-marks t.level f ≡ false
          passed-here k f le at-k = not-true (is_open less-marks t.level f) (λ o.
              let parts = open-parts less-marks t.level f o in
              let f-in = entry-in t n1 d1 u f (contains-get t.entries k f at-k) in
              let there = entry-in t n1 d1 u e has-here in
              let in-marks : e.lit.var - 1 < length d1.marks = omega (arith, there.0, there.1, u.marks_len) in
              let old = unmark-only d1.marks (e.lit.var - 1) (f.lit.var - 1) in-marks parts.0 in
              let ne : k ≢ at = λ q. old.0 (ap (λ (x : Entry). x.lit.var - 1) (let P : ℕ → Type 0 = λ i. slice_get t.entries i ≡ Some f in same_Some f e (sym (subst P q at-k) ∙ here))) in
              elim (only (f.lit.var - 1) old.1) [
                | inl was ↦ (let bad : true ≡ false = sym (open-yes d.marks t.level f was parts.1) ∙ w.passed k f (omega (arith, le, ne)) at-k in cc)
                | inr l ↦
                    let g = not-after l.0 l.1 in
                    let var : g.1.lit.var ≡ f.lit.var = g.4 ∙ (let q = l.2 in omega (arith, q, f-in.0)) in
                    let same : g.0 ≡ k = once-index t.entries g.0 k g.1 f u.course.once g.3 at-k var in
                    ne (let low = g.2 in omega (arith, same, low, le))
              ])

          suffice-here : Suffice clauses t.entries less-marks
          suffice-here start h = w.suffice start (λ f c m.
              let at-f = get-contained t.entries f c in
              elim (cases_eq at-f.0 at) [
                | inr ne ↦ h f c (still at-f.0 f ne at-f.1 (stay (f.lit.var - 1) m))
                | inl q ↦
                    let P : ℕ → Type 0 = λ i. slice_get t.entries i ≡ Some f in
                    let same : e ≡ f = same_Some e f (sym here ∙ subst P q at-f.1) in
                    let Q : Entry → Type 0 = λ x. IsImplied clauses start x.lit in
                    subst Q same (forced cl e.lit (contains-get clauses id cl get) reason.0 (λ l hl ne.
                    let o = others-before l hl ne in
                    let R : Lit → Type 0 = λ x. IsImplied clauses start x in
                    elim (taken l hl) [
                      | inl mk ↦
                          let V : ℕ → Type 0 = λ v. IsMarked d1.marks v in
                          let mk' : IsMarked d1.marks o.1.lit.var = subst V (sym (ap (λ (x : Lit). x.var) o.4)) mk in
                          subst R o.4 (h o.1 (contains-get t.entries o.0 o.1 o.3) (still o.0 o.1 (let lt = o.2 in omega (arith, lt)) o.3 mk'))
                      | inr z ↦
                          let g = get-contained t.entries z.0 z.1 in
                          subst R z.2 (zero-implied clauses t.entries t.level start reasons u.course.rises (g.0 + 1) g.0 z.0 (omega arith) g.1 z.3)
                    ]))
              ])

          pub stepped : IsWalking clauses t at (n1 - 1) (record d1 { marks = set d1.marks (e.lit.var - 1) false })
          stepped = record { underway = left; some = some-left; passed = passed-here; suffice = suffice-here }

-- an entry that isn't marked is passed over
pub pass-over : (clauses : List (List Lit)) (t : Course) (at n : ℕ) (d : Drafting) → IsWalking clauses t (at + 1) n d → (e : Entry) → slice_get t.entries at ≡ Some e → get_or d.marks (e.lit.var - 1) false ≡ false → IsWalking clauses t at n d
pass-over clauses t at n d w e here out = record {
  underway = w.underway;
  some = w.some;
  passed = λ k f le at-k. elim (cases_eq k at) [
    | inl same ↦
        let P : ℕ → Type 0 = λ i. slice_get t.entries i ≡ Some f in
        let Q : Entry → Type 0 = λ x. is_open d.marks t.level x ≡ false in
        subst Q (same_Some e f (sym here ∙ subst P same at-k)) (open-unmarked d.marks t.level e out)
    | inr ne ↦ w.passed k f (omega (arith, le, ne)) at-k
  ];
  suffice = w.suffice;
}

-- there is an entry to go back to
pub not-begun : (clauses : List (List Lit)) (t : Course) (at n : ℕ) (d : Drafting) → IsWalking clauses t at n d → 1 ≤ at
not-begun clauses t at n d w = by at w
  where
    by : (k : ℕ) → IsWalking clauses t k n d → 1 ≤ k
    by zero h =
        let s = h.some in
        let o = count-exists (is_open d.marks t.level) t.entries (omega (arith, s, h.underway.counted)) in
        let bad : true ≡ false = sym o.2.1 ∙ h.passed o.0 o.1 (omega arith) o.2.0 in cc
    by (suc k) h = omega arith

pub entry-at : (es : List Entry) (k : ℕ) (d : Lit) → k < length es → (e : Entry) × (slice_get es k ≡ Some e) × (e.lit ≡ get_or (lits_of es) k d)
entry-at [] k d lt = absurd (omega (arith, lt))
entry-at (e ∷ es) zero d lt = (e, refl, refl)
entry-at (e ∷ es) (suc k) d lt = let r = entry-at es k d (omega (arith, lt)) in (r.0, r.1, r.2)

pub one-back : (clauses : List (List Lit)) (t : Course) (at n : ℕ) (d : Drafting) → IsWalking clauses t at n d → IsWalking clauses t (at - 1 + 1) n d
one-back clauses t at n d w =
    let P : ℕ → Type 0 = λ k. IsWalking clauses t k n d in
    let begun = not-begun clauses t at n d w in
    let same : at ≡ at - 1 + 1 = omega (arith, begun) in
    subst P same w

-- the entry before the place, by what is read of the trail
pub entry-of : (clauses : List (List Lit)) (t : Course) (at n : ℕ) (d : Drafting) → IsWalking clauses t at n d → at ≤ length t.entries → (lits : List Lit) → lits ≡ lits_of t.entries → (z : Lit) → (e : Entry) × (slice_get t.entries (at - 1) ≡ Some e) × (e.lit ≡ get_or lits (at - 1) z) × InVars t.vars (get_or lits (at - 1) z)
entry-of clauses t at n d w within lits is z =
    let begun = not-begun clauses t at n d w in
    let r = entry-at t.entries (at - 1) z (omega (arith, begun, within)) in
    let same : r.0.lit ≡ get_or lits (at - 1) z = r.2 ∙ ap (λ (ls : List Lit). get_or ls (at - 1) z) (sym is) in
    let P : Lit → Type 0 = λ l. InVars t.vars l in
    (r.0, r.1, same, subst P same (entry-in t n d w.underway r.0 (contains-get t.entries (at - 1) r.0 r.1)))
