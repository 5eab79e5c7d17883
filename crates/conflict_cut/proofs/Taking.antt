-- Taking in a literal that is false and whose variable isn't marked.
use Rattle.std.proofs.Common.{◌≡◌, ◌≢◌, ℕ, zero, suc, ◌+◌, ◌-◌, ◌<◌, ◌≤◌, ◌⊎◌, inl, inr, Bool, true, false, cond, ◌&&◌, List, [], ◌∷◌, ◌++◌, length, get_or, set, count_by, nat_eq, refl, ap, sym, ◌∙◌, subst, arith, length-set, length-append, get_or-set_other, get_or-set_same}
use Rattle.std.specs.List.{Contains}
use Rattle.std.proofs.lemmas.Bool.{cases_eq}
use Rattle.std.proofs.lemmas.Bool.Decides.{nat_tests}
use Rattle.std.proofs.lemmas.List.Sums.{sum_by-set, count_by-le-length}
use Rattle.std.proofs.lemmas.List.Elements.{All-contains, Contains-push, Contains-push_cases, Contains-append_left}
use Rattle.clause_store.specs.declared.Lit.{Lit}
use Rattle.clause_store.specs.Clauses.{negated, InVars}
use Rattle.clause_store.proofs.GeneralLists.{Contains-nil, Contains-head, Contains-tail}
use Rattle.trail_core.specs.Course.{Entry, Course, Fails}
use Rattle.trail_core.proofs.GeneralTrails.{once-same, level-at-most}
use Rattle.conflict_cut.specs.Cut.{NameOnce}
use Rattle.conflict_cut.specs.Draft.{Drafting, IsMarked, IsMarkedAt, is_open, IsLow, IsUnderway, IsTaken, StayMarked}
use Rattle.conflict_cut.proofs.Counting.{count-same, count-more}
use Rattle.clause_store.proofs.GeneralLiterals.{negated-negated}

-- marks
pub marked-in : (marks : List Bool) (p : ℕ) → IsMarkedAt marks p → p < length marks
marked-in [] p h = cc
marked-in (b ∷ bs) zero h = omega arith
marked-in (b ∷ bs) (suc p) h = omega (arith, marked-in bs p h)

pub mark-stays : (marks : List Bool) (v p : ℕ) → IsMarkedAt marks p → IsMarkedAt (set marks v true) p
mark-stays marks v p h = elim (cases_eq p v) [
  | inl same ↦ (let lt : v < length marks = (let k = marked-in marks p h in omega (arith, k, same)) in rw (same, get_or-set_same) refl)
  | inr ne ↦ rw get_or-set_other h
]

pub mark-here : (marks : List Bool) (v : ℕ) → v < length marks → IsMarkedAt (set marks v true) v
mark-here marks v lt = rw get_or-set_same refl

pub mark-only : (marks : List Bool) (v p : ℕ) → IsMarkedAt (set marks v true) p → (p ≡ v) ⊎ ((p ≢ v) × IsMarkedAt marks p)
mark-only marks v p h = elim (cases_eq p v) [
  | inl same ↦ inl same
  | inr ne ↦ inr (ne, rw get_or-set_other at h)
]

-- whether an entry is open
pub open-yes : (marks : List Bool) (level : ℕ) (e : Entry) → IsMarked marks e.lit.var → e.level ≡ level → is_open marks level e ≡ true
open-yes marks level e m q = rw m (grind (arith, nat_tests))

pub open-unmarked : (marks : List Bool) (level : ℕ) (e : Entry) → get_or marks (e.lit.var - 1) false ≡ false → is_open marks level e ≡ false
open-unmarked marks level e m = rw m refl

pub open-other : (marks : List Bool) (level : ℕ) (e : Entry) → e.level ≢ level → is_open marks level e ≡ false
open-other marks level e ne = by (get_or marks (e.lit.var - 1) false)
  where
    by : (b : Bool) → b && nat_eq e.level level ≡ false
    by true = grind (arith, nat_tests)
    by false = refl

pub open-parts : (marks : List Bool) (level : ℕ) (e : Entry) → is_open marks level e ≡ true → IsMarked marks e.lit.var × (e.level ≡ level)
open-parts marks level e h = by (get_or marks (e.lit.var - 1) false) h
  where
    by : (b : Bool) → b && nat_eq e.level level ≡ true → (b ≡ true) × (e.level ≡ level)
    by true q = (refl, grind (arith, nat_tests))
    by false q = cc

pub open-far : (marks : List Bool) (v level : ℕ) (b : Bool) (e : Entry) → e.lit.var - 1 ≢ v → is_open (set marks v b) level e ≡ is_open marks level e
open-far marks v level b e ne = rw get_or-set_other refl

pub name-once-push : (ls : List Lit) (l : Lit) → NameOnce ls → ((m : Lit) → Contains ls m → m.var ≢ l.var) → NameOnce (ls ++ l ∷ [])
name-once-push [] l h f = (λ m c. absurd (Contains-nil m c), tt)
name-once-push (x ∷ xs) l h f = (
  λ m c. elim (Contains-push_cases xs l m c) [
    | inl here ↦ h.0 m here
    | inr same ↦ λ q. f x (Contains-head x xs) (sym q ∙ sym (ap (λ (k : Lit). k.var) same))
  ],
  name-once-push xs l h.1 (λ m c. f m (Contains-tail x xs m c)),
)

-- the trail has an entry of a variable that isn't marked yet
module _ (t : Course) (n : ℕ) (d : Drafting) (u : IsUnderway t n d) (e : Entry) (has : Contains t.entries e) (out : get_or d.marks (e.lit.var - 1) false ≡ false) where
  abbrev place : ℕ
  place = e.lit.var - 1

  abbrev more : List Bool
  more = set d.marks (e.lit.var - 1) true

  there : InVars t.vars e.lit
  there = All-contains (λ (x : Entry). InVars t.vars x.lit) t.entries e u.course.named has

  place-in : e.lit.var - 1 < length d.marks
  place-in = omega (arith, there.0, there.1, u.marks_len)

  one-more : count_by (λ b. b) more ≡ count_by (λ b. b) d.marks + 1
  one-more =
      let law : count_by (λ b. b) more + cond (get_or d.marks place false) 1 0 ≡ count_by (λ b. b) d.marks + 1 =
      sum_by-set (λ (b : Bool). cond b 1 0) d.marks place true false place-in in
      let zero' : ◌≡◌ {A = ℕ} (cond (get_or d.marks place false) 1 0) 0 = ap (λ (b : Bool). cond b 1 0) out in
      omega (arith, law, zero')

  far : (f : Entry) → Contains t.entries f → f.lit.var ≢ e.lit.var → f.lit.var - 1 ≢ e.lit.var - 1
  far f c ne =
      let f-there : InVars t.vars f.lit = All-contains (λ (x : Entry). InVars t.vars x.lit) t.entries f u.course.named c in
      λ q. ne (omega (arith, q, f-there.0, there.0))

  old-place : (p : ℕ) → p ≡ e.lit.var - 1 → e.lit.var ≡ p + 1
  old-place p q = omega (arith, q, there.0)

  -- an entry of the present level
  pub take-present : e.level ≡ t.level → IsUnderway t (n + 1) (record d { marks = set d.marks (e.lit.var - 1) true })
  take-present level = record {
    course = u.course;
    marks_len = rw length-set u.marks_len;
    room = omega (arith, one-more, u.room);
    kept = λ l c. let k = u.kept l c in (mark-stays d.marks place (l.var - 1) k.0, k.1);
    once = u.once;
    marked = λ p m. elim (mark-only d.marks place p m) [
      | inl same ↦ (e, has, old-place p same, inl level)
      | inr old ↦ u.marked p old.1
    ];
    counted =
        let law = count-more (is_open d.marks t.level) (is_open more t.level) t.entries e u.course.once has
        (open-unmarked d.marks t.level e out)
        (open-yes more t.level e (mark-here d.marks place place-in) level)
        (λ f c ne. sym (open-far d.marks place t.level true f (far f c ne))) in
        omega (arith, law, u.counted);
  }

  -- an entry of a lower level
  pub take-low : (l : Lit) → e.lit ≡ negated l → e.level ≢ t.level → e.level ≢ 0 → IsUnderway t n (record { marks = set d.marks (e.lit.var - 1) true; lits = d.lits ++ l ∷ [] })
  take-low l is ne nz =
      let var : e.lit.var ≡ l.var = ap (λ (k : Lit). k.var) is in
      let low : e.level < t.level = omega (arith, ne, level-at-most 0 t.entries t.level e u.course.rises has) in
      record {
        course = u.course;
        marks_len = rw length-set u.marks_len;
        room = omega (arith, one-more, u.room, length-append d.lits (l ∷ []));
        kept = λ m c. elim (Contains-push_cases d.lits l m c) [
          | inl old ↦ let k = u.kept m old in (mark-stays d.marks place (m.var - 1) k.0, k.1)
          | inr same ↦
              let P : Lit → Type 0 = λ x. IsMarked (set d.marks (e.lit.var - 1) true) x.var × IsLow t x in
              let V : ℕ → Type 0 = λ v. IsMarked (set d.marks (e.lit.var - 1) true) v in
              subst P same (subst V var (mark-here d.marks place place-in), (e.level, (e, has, is, refl), omega (arith, nz), low))
        ];
        once = name-once-push d.lits l u.once (λ m c q.
            let k = u.kept m c in
            let V : ℕ → Type 0 = λ v. IsMarked d.marks v in
            let bad : true ≡ false = sym (subst V (q ∙ sym var) k.0) ∙ out in cc);
        marked = λ p m. elim (mark-only d.marks place p m) [
          | inl same ↦
              let P : Lit → Type 0 = λ x. Contains (d.lits ++ l ∷ []) x in
              (e, has, old-place p same, inr (subst P (sym (ap negated is ∙ negated-negated l)) (Contains-push d.lits l)))
          | inr old ↦
              let k = u.marked p old.1 in
              (k.0, k.1, k.2, elim k.3 [ inl here ↦ inl here | inr there ↦ inr (Contains-append_left d.lits (l ∷ []) (negated k.0.lit) there) ])
        ];
        counted =
            u.counted ∙ count-same (is_open d.marks t.level) (is_open more t.level) t.entries
            (λ f c. elim (cases_eq f.lit.var e.lit.var) [
              | inl q ↦
                  let same : f ≡ e = once-same t.entries f e u.course.once c has q in
                  let other : f.level ≢ t.level = λ z. ne (sym (ap (λ (x : Entry). x.level) same) ∙ z) in
                  open-other d.marks t.level f other ∙ sym (open-other more t.level f other)
              | inr apart ↦ sym (open-far d.marks place t.level true f (far f c apart))
            ]);
      }

  -- there is room for one literal more
  pub room-left : length d.lits < length (set d.marks (e.lit.var - 1) true)
  room-left = omega (arith, one-more, u.room, count_by-le-length (λ (b : Bool). b) more)

pub count-in : (t : Course) (n : ℕ) (d : Drafting) → IsUnderway t n d → n ≤ length d.marks
count-in t n d u = omega (arith, u.room, count_by-le-length (λ (b : Bool). b) d.marks)

pub was-false : (t : Course) (d : Drafting) (l : Lit) (b : Bool) → IsMarked d.marks l.var ⊎ Fails t.entries l → b ≡ get_or d.marks (l.var - 1) false → b ≡ false → Fails t.entries l
was-false t d l b h is off = elim h [
  | inl m ↦ (let bad : true ≡ false = sym m ∙ sym is ∙ off in cc)
  | inr f ↦ f
]

-- the same by the literal
module _ (t : Course) (n : ℕ) (d : Drafting) (u : IsUnderway t n d) (l : Lit) (f : Fails t.entries l) (b : Bool) (is : b ≡ get_or d.marks (l.var - 1) false) (off : b ≡ false) (d' : Drafting) (now : d' ≡ record d { marks = set d.marks (l.var - 1) true }) where
  same-var : f.0.lit.var ≡ l.var
  same-var = ap (λ (k : Lit). k.var) f.2

  unmarked : get_or d.marks (f.0.lit.var - 1) false ≡ false
  unmarked = ap (λ (v : ℕ). get_or d.marks (v - 1) false) same-var ∙ sym is ∙ off

  now-is : record d { marks = set d.marks (f.0.lit.var - 1) true } ≡ d'
  now-is = ap (λ (v : ℕ). record d { marks = set d.marks (v - 1) true }) same-var ∙ sym now

  pub lit-present : f.0.level ≡ t.level → IsUnderway t (n + 1) d'
  lit-present level =
      let P : Drafting → Type 0 = λ x. IsUnderway t (n + 1) x in
      subst P now-is (take-present t n d u f.0 f.1 unmarked level)

  pub lit-room : length d'.lits < length d'.marks
  lit-room =
      let P : Drafting → Type 0 = λ x. length x.lits < length x.marks in
      subst P now-is (room-left t n d u f.0 f.1 unmarked)

  pub lit-low : (d'' : Drafting) → d'' ≡ record d' { lits = d'.lits ++ l ∷ [] } → f.0.level ≢ t.level → f.0.level ≢ 0 → IsUnderway t n d''
  lit-low d'' kept ne nz =
      let P : Drafting → Type 0 = λ x. IsUnderway t n x in
      subst P (ap (λ (x : Drafting). record x { lits = x.lits ++ l ∷ [] }) now-is ∙ sym kept)
      (take-low t n d u f.0 f.1 unmarked l f.2 ne nz)

pub taken-stays : (es : List Entry) (old new : List Bool) → StayMarked old new → (l : Lit) → IsTaken es old l → IsTaken es new l
taken-stays es old new stay l h = elim h [ inl m ↦ inl (stay (l.var - 1) m) | inr z ↦ inr z ]
