-- General: entries of trails, their variables and their levels. These lemmas are on the definitions alone, and other crates
-- may cite them.
use Rattle.std.proofs.Common.{◌≡◌, ℕ, zero, suc, ◌+◌, ◌<◌, ◌≤◌, ◌⊎◌, inl, inr, Bool, true, false, not, cond, List, [], ◌∷◌, ◌++◌, length, take, slice_get, Option, Some, None, MatchOption, nat_le, refl, ap, sym, ◌∙◌, subst, arith, length-append}
use Rattle.std.specs.Prelude.{is_none, count_by}
use Rattle.std.specs.List.{All, Contains}
use Rattle.std.proofs.lemmas.Bool.{cases_eq}
use Rattle.std.proofs.lemmas.Bool.Decides.{nat_tests}
use Rattle.std.proofs.lemmas.Option.{same_Some}
use Rattle.std.proofs.lemmas.List.Sums.{sum_by-cons}
use Rattle.std.proofs.lemmas.List.Elements.{All-nil, All-cons, All-head, All-tail, All-push, Contains-push_cases}
use Rattle.clause_store.specs.declared.Lit.{Lit}
use Rattle.clause_store.specs.Clauses.{InVars, negated}
use Rattle.clause_store.proofs.GeneralLists.{Contains-head, Contains-tail, Contains-nil, Contains-cons_cases, Contains-filter, Contains-from_filter}
use Rattle.clause_store.proofs.GeneralLiterals.{same_lit}
use Rattle.trail_core.specs.Course.{Entry, Course, IsCourse, Holds, Fails, HasNoValue, HaveOnce, Rises, extended, up_to}

-- a variable has one entry
pub once-same : (es : List Entry) (e f : Entry) → HaveOnce es → Contains es e → Contains es f → e.lit.var ≡ f.lit.var → e ≡ f
once-same [] e f h ce cf q = absurd (Contains-nil e ce)
once-same (x ∷ xs) e f h ce cf q = elim (Contains-cons_cases x xs e ce) [
  | inl xe ↦ elim (Contains-cons_cases x xs f cf) [
    | inl xf ↦ sym xe ∙ xf
    | inr lf ↦ absurd (h.0 f lf (sym q ∙ ap (λ (k : Entry). k.lit.var) (sym xe)))
  ]
  | inr le ↦ elim (Contains-cons_cases x xs f cf) [
    | inl xf ↦ absurd (h.0 e le (q ∙ ap (λ (k : Entry). k.lit.var) (sym xf)))
    | inr lf ↦ once-same xs e f h.1 le lf q
  ]
]

not-self : (b : Bool) → b ≡ not b → ⊥
not-self true e = cc
not-self false e = cc

-- no literal is true and false
pub not-both : (es : List Entry) (l : Lit) → HaveOnce es → Holds es l → Fails es l → ⊥
not-both es l h t f =
    let q : t.0.lit.var ≡ f.0.lit.var = ap (λ (k : Lit). k.var) t.2 ∙ sym (ap (λ (k : Lit). k.var) f.2) in
    let same : t.0 ≡ f.0 = once-same es t.0 f.0 h t.1 f.1 q in
    let turned : l ≡ negated l = sym t.2 ∙ ap (λ (k : Entry). k.lit) same ∙ f.2 in
    not-self l.positive (ap (λ (k : Lit). k.positive) turned)

pub free-not-holds : (es : List Entry) (l : Lit) → HasNoValue es l.var → Holds es l → ⊥
free-not-holds es l free h = free h.0 h.1 (ap (λ (k : Lit). k.var) h.2)

pub free-not-fails : (es : List Entry) (l : Lit) → HasNoValue es l.var → Fails es l → ⊥
free-not-fails es l free h = free h.0 h.1 (ap (λ (k : Lit). k.var) h.2)

-- a sign is another one or its opposite
bits : (a b : Bool) → (a ≡ b) ⊎ (a ≡ not b)
bits true true = inl refl
bits true false = inr refl
bits false true = inr refl
bits false false = inl refl

-- a literal is true, or false, or has no value
pub one-of-three : (es : List Entry) (l : Lit) → Holds es l ⊎ (Fails es l ⊎ HasNoValue es l.var)
one-of-three [] l = inr (inr (λ e c. absurd (Contains-nil e c)))
one-of-three (x ∷ xs) l = elim (cases_eq x.lit.var l.var) [
  | inl v ↦ elim (bits x.lit.positive l.positive) [
    | inl p ↦ inl (x, Contains-head x xs, same_lit x.lit l v p)
    | inr p ↦ inr (inl (x, Contains-head x xs, same_lit x.lit (negated l) v p))
  ]
  | inr ne ↦ elim (one-of-three xs l) [
    | inl h ↦ inl (h.0, Contains-tail x xs h.0 h.1, h.2)
    | inr rest ↦ elim rest [
      | inl f ↦ inr (inl (f.0, Contains-tail x xs f.0 f.1, f.2))
      | inr free ↦ inr (inr (λ e c. elim (Contains-cons_cases x xs e c) [
        | inl same ↦ λ q. ne (ap (λ (k : Entry). k.lit.var) same ∙ q)
        | inr later ↦ free e later
      ]))
    ]
  ]
]

-- by one entry the level goes up, by at most one
pub step-up : (from : ℕ) (e : Entry) (o : Option ℕ) → MatchOption o (e.level ≡ from + 1) (λ _. e.level ≡ from) → from ≤ e.level
step-up from e None h = omega (arith, h)
step-up from e (Some r) h = omega (arith, h)

pub step-small : (from : ℕ) (e : Entry) (o : Option ℕ) → MatchOption o (e.level ≡ from + 1) (λ _. e.level ≡ from) → e.level ≤ from + 1
step-small from e None h = omega (arith, h)
step-small from e (Some r) h = omega (arith, h)

pub step-decided : (from : ℕ) (e : Entry) (o : Option ℕ) → MatchOption o (e.level ≡ from + 1) (λ _. e.level ≡ from) → o ≡ None → from < e.level
step-decided from e None h q = omega (arith, h)
step-decided from e (Some r) h q = absurd (let P : Option ℕ → Type 0 = λ p. MatchOption p ⊥ (λ _. ℕ) in subst P q r)

pub rises-up : (from : ℕ) (es : List Entry) (to : ℕ) → Rises from es to → from ≤ to
rises-up from [] to h = omega (arith, h)
rises-up from (e ∷ es) to h = omega (arith, step-up from e e.reason h.0, rises-up e.level es to h.1)

-- no level is above the last
pub level-at-most : (from : ℕ) (es : List Entry) (to : ℕ) (e : Entry) → Rises from es to → Contains es e → e.level ≤ to
level-at-most from [] to e h c = absurd (Contains-nil e c)
level-at-most from (x ∷ xs) to e h c = elim (Contains-cons_cases x xs e c) [
  | inl same ↦ let q : x.level ≡ e.level = ap (λ (k : Entry). k.level) same in omega (arith, q, rises-up x.level xs to h.1)
  | inr later ↦ level-at-most x.level xs to e h.1 later
]

-- no level is below the first, and that of a decided entry is above it
pub level-at-least : (from : ℕ) (es : List Entry) (to k : ℕ) (e : Entry) → Rises from es to → slice_get es k ≡ Some e → from ≤ e.level
level-at-least from [] to k e h at = cc
level-at-least from (x ∷ xs) to zero e h at =
    let q : x.level ≡ e.level = ap (λ (f : Entry). f.level) (same_Some x e at) in omega (arith, q, step-up from x x.reason h.0)
level-at-least from (x ∷ xs) to (suc k) e h at =
    omega (arith, step-up from x x.reason h.0, level-at-least x.level xs to k e h.1 at)

pub decided-above : (from : ℕ) (es : List Entry) (to k : ℕ) (e : Entry) → Rises from es to → slice_get es k ≡ Some e → e.reason ≡ None → from < e.level
decided-above from [] to k e h at none = cc
decided-above from (x ∷ xs) to zero e h at none =
    let same : x ≡ e = same_Some x e at in
    let q : x.level ≡ e.level = ap (λ (f : Entry). f.level) same in
    omega (arith, q, step-decided from x x.reason h.0 (ap (λ (f : Entry). f.reason) same ∙ none))
decided-above from (x ∷ xs) to (suc k) e h at none =
    omega (arith, step-up from x x.reason h.0, decided-above x.level xs to k e h.1 at none)

-- levels never fall
pub levels-along : (from : ℕ) (es : List Entry) (to i j : ℕ) (e f : Entry) → Rises from es to → i ≤ j → slice_get es i ≡ Some e → slice_get es j ≡ Some f → e.level ≤ f.level
levels-along from [] to i j e f h le at at' = cc
levels-along from (x ∷ xs) to zero zero e f h le at at' =
    let q : e.level ≡ f.level = ap (λ (k : Entry). k.level) (sym (same_Some x e at) ∙ same_Some x f at') in omega (arith, q)
levels-along from (x ∷ xs) to zero (suc j) e f h le at at' =
    let q : x.level ≡ e.level = ap (λ (k : Entry). k.level) (same_Some x e at) in
    omega (arith, q, level-at-least x.level xs to j f h.1 at')
levels-along from (x ∷ xs) to (suc i) zero e f h le at at' = absurd (omega (arith, le))
levels-along from (x ∷ xs) to (suc i) (suc j) e f h le at at' = levels-along x.level xs to i j e f h.1 (omega (arith, le)) at at'

-- a decided entry is above all before it
pub decided-first : (from : ℕ) (es : List Entry) (to i j : ℕ) (e f : Entry) → Rises from es to → i < j → slice_get es i ≡ Some e → slice_get es j ≡ Some f → f.reason ≡ None → e.level < f.level
decided-first from [] to i j e f h lt at at' none = cc
decided-first from (x ∷ xs) to i zero e f h lt at at' none = absurd (omega (arith, lt))
decided-first from (x ∷ xs) to zero (suc j) e f h lt at at' none =
    let q : x.level ≡ e.level = ap (λ (k : Entry). k.level) (same_Some x e at) in
    omega (arith, q, decided-above x.level xs to j f h.1 at' none)
decided-first from (x ∷ xs) to (suc i) (suc j) e f h lt at at' none =
    decided-first x.level xs to i j e f h.1 (omega (arith, lt)) at at' none

-- the level rises by the number of decided entries
pub level-number : (from : ℕ) (es : List Entry) (to : ℕ) → Rises from es to → to ≡ from + count_by (λ (e : Entry). is_none e.reason) es
level-number from [] to h = omega (arith, h)
level-number from (e ∷ es) to h =
    let more : count_by (λ (x : Entry). is_none x.reason) (e ∷ es) ≡ cond (is_none e.reason) 1 0 + count_by (λ (x : Entry). is_none x.reason) es =
    sum_by-cons (λ (x : Entry). cond (is_none x.reason) 1 0) e es in
    omega (arith, more, step e.reason h.0, level-number e.level es to h.1)
  where
    step : (o : Option ℕ) → MatchOption o (e.level ≡ from + 1) (λ _. e.level ≡ from) → e.level ≡ from + cond (is_none o) 1 0
    step None h = h
    step (Some r) h = omega (arith, h)

-- one entry more
pub HaveOnce-push : (es : List Entry) (e : Entry) → HaveOnce es → HasNoValue es e.lit.var → HaveOnce (es ++ e ∷ [])
HaveOnce-push [] e h f = (λ g c. absurd (Contains-nil g c), tt)
HaveOnce-push (x ∷ xs) e h f = (
  λ g c. elim (Contains-push_cases xs e g c) [
    | inl here ↦ h.0 g here
    | inr same ↦ λ q. f x (Contains-head x xs) (sym q ∙ sym (ap (λ (k : Entry). k.lit.var) same))
  ],
  HaveOnce-push xs e h.1 (λ g c. f g (Contains-tail x xs g c)),
)

pub Rises-push : (from : ℕ) (es : List Entry) (to : ℕ) (e : Entry) (to' : ℕ) → Rises from es to → MatchOption e.reason (e.level ≡ to + 1) (λ _. e.level ≡ to) → e.level ≡ to' → Rises from (es ++ e ∷ []) to'
Rises-push from [] to e to' h m q =
    let P : ℕ → Type 0 = λ n. MatchOption e.reason (e.level ≡ n + 1) (λ _. e.level ≡ n) in (subst P (sym h) m, q)
Rises-push from (x ∷ xs) to e to' h m q = (h.0, Rises-push x.level xs to e to' h.1 m q)

pub IsCourse-push : (t : Course) (e : Entry) → IsCourse t → InVars t.vars e.lit → HasNoValue t.entries e.lit.var → MatchOption e.reason (e.level ≡ t.level + 1) (λ _. e.level ≡ t.level) → IsCourse (extended t e.level e)
IsCourse-push t e k there free opens = record {
  named = All-push (λ (x : Entry). InVars t.vars x.lit) t.entries e k.named there;
  once = HaveOnce-push t.entries e k.once free;
  rises = Rises-push 0 t.entries t.level e e.level k.rises opens refl;
  seen_in = omega (arith, k.seen_in, length-append t.entries (e ∷ []));
}

-- a level is at most the number of entries
pub Rises-le : (from : ℕ) (es : List Entry) (to : ℕ) → Rises from es to → to ≤ from + length es
Rises-le from [] to h = omega (arith, h)
Rises-le from (e ∷ es) to h = omega (arith, Rises-le e.level es to h.1, step-small from e e.reason h.0)

-- by the level of one entry
pub level-cases : (k level : ℕ) → ((k ≤ level) × (nat_le k level ≡ true)) ⊎ ((level < k) × (nat_le k level ≡ false))
level-cases k level = split (nat_le k level) refl
  where
    split : (b : Bool) → nat_le k level ≡ b → ((k ≤ level) × (nat_le k level ≡ true)) ⊎ ((level < k) × (nat_le k level ≡ false))
    split true e = inl (grind (arith, nat_tests), e)
    split false e = inr (grind (arith, nat_tests), e)

pub up_to-keeps : (level : ℕ) (x : Entry) (xs : List Entry) → x.level ≤ level → up_to level (x ∷ xs) ≡ x ∷ up_to level xs
up_to-keeps level x xs h = elim (level-cases x.level level) [
  | inl k ↦ rw k.1 refl
  | inr k ↦ absurd (omega (arith, h, k.0))
]

pub up_to-drops : (level : ℕ) (x : Entry) (xs : List Entry) → level < x.level → up_to level (x ∷ xs) ≡ up_to level xs
up_to-drops level x xs h = elim (level-cases x.level level) [
  | inl k ↦ absurd (omega (arith, h, k.0))
  | inr k ↦ rw k.1 refl
]

-- above the level nothing is left
pub up_to-none : (level from : ℕ) (es : List Entry) (to : ℕ) → Rises from es to → level < from → up_to level es ≡ []
up_to-none level from [] to h lt = refl
up_to-none level from (e ∷ es) to h lt =
    let over : level < e.level = omega (arith, lt, step-up from e e.reason h.0) in
    up_to-drops level e es over ∙ up_to-none level e.level es to h.1 over

-- up to the level all stays
pub up_to-all : (level : ℕ) (es : List Entry) → ((e : Entry) → Contains es e → e.level ≤ level) → up_to level es ≡ es
up_to-all level [] h = refl
up_to-all level (e ∷ es) h =
    up_to-keeps level e es (h e (Contains-head e es))
    ∙ ap (λ (xs : List Entry). e ∷ xs) (up_to-all level es (λ f c. h f (Contains-tail e es f c)))

pub rises-up_to : (from : ℕ) (es : List Entry) (to level : ℕ) → Rises from es to → from ≤ level → level ≤ to → Rises from (up_to level es) level
rises-up_to from [] to level h lo hi = omega (arith, h, lo, hi)
rises-up_to from (e ∷ es) to level h lo hi = elim (level-cases e.level level) [
  | inl k ↦
      let P : List Entry → Type 0 = λ xs. Rises from xs level in
      subst P (sym (up_to-keeps level e es k.0)) (h.0, rises-up_to e.level es to level h.1 k.0 hi)
  | inr k ↦
      let P : List Entry → Type 0 = λ xs. Rises from xs level in
      let none : up_to level (e ∷ es) ≡ [] = up_to-drops level e es k.0 ∙ up_to-none level e.level es to h.1 k.0 in
      subst P (sym none) (omega (arith, lo, k.0, step-small from e e.reason h.0))
]

-- what is left is a front
pub up_to-front : (level from : ℕ) (es : List Entry) (to : ℕ) → Rises from es to → up_to level es ≡ take (length (up_to level es)) es
up_to-front level from [] to h = refl
up_to-front level from (e ∷ es) to h = elim (level-cases e.level level) [
  | inl k ↦
      let P : List Entry → Type 0 = λ xs. xs ≡ take (length xs) (e ∷ es) in
      subst P (sym (up_to-keeps level e es k.0)) (ap (λ (xs : List Entry). e ∷ xs) (up_to-front level e.level es to h.1))
  | inr k ↦
      let P : List Entry → Type 0 = λ xs. xs ≡ take (length xs) (e ∷ es) in
      let none : up_to level (e ∷ es) ≡ [] = up_to-drops level e es k.0 ∙ up_to-none level e.level es to h.1 k.0 in
      subst P (sym none) refl
]

-- what is left is what is of at most the level
pub from-up_to : (level : ℕ) (es : List Entry) (e : Entry) → Contains (up_to level es) e → Contains es e × (e.level ≤ level)
from-up_to level es e h =
    let kept = Contains-from_filter (λ (x : Entry). nat_le x.level level) es e h in (kept.0, within e.level kept.1)
  where
    within : (k : ℕ) → nat_le k level ≡ true → k ≤ level
    within k q = grind (arith, nat_tests)

pub to-up_to : (level : ℕ) (es : List Entry) (e : Entry) → Contains es e → e.level ≤ level → Contains (up_to level es) e
to-up_to level es e h le = Contains-filter (λ (x : Entry). nat_le x.level level) es e h (test e.level le)
  where
    test : (k : ℕ) → k ≤ level → nat_le k level ≡ true
    test k l = grind (arith, nat_tests)

-- each variable stands once in what is left
pub HaveOnce-up_to : (level : ℕ) (es : List Entry) → HaveOnce es → HaveOnce (up_to level es)
HaveOnce-up_to level [] h = tt
HaveOnce-up_to level (e ∷ es) h = elim (level-cases e.level level) [
  | inl k ↦
      let P : List Entry → Type 0 = λ xs. HaveOnce xs in
      subst P (sym (up_to-keeps level e es k.0)) (λ f c. h.0 f (from-up_to level es f c).0, HaveOnce-up_to level es h.1)
  | inr k ↦
      let P : List Entry → Type 0 = λ xs. HaveOnce xs in
      subst P (sym (up_to-drops level e es k.0)) (HaveOnce-up_to level es h.1)
]

-- its literals are of variables that are there
pub named-up_to : (n level : ℕ) (es : List Entry) → All (λ (e : Entry). InVars n e.lit) es → All (λ (e : Entry). InVars n e.lit) (up_to level es)
named-up_to n level [] h = All-nil (λ (e : Entry). InVars n e.lit)
named-up_to n level (e ∷ es) h =
    let P : List Entry → Type 0 = λ xs. All (λ (x : Entry). InVars n x.lit) xs in
    let rest = named-up_to n level es (All-tail (λ (x : Entry). InVars n x.lit) e es h) in
    elim (level-cases e.level level) [
      | inl k ↦ subst P (sym (up_to-keeps level e es k.0)) (All-cons (λ (x : Entry). InVars n x.lit) e (up_to level es) (All-head (λ (x : Entry). InVars n x.lit) e es h) rest)
      | inr k ↦ subst P (sym (up_to-drops level e es k.0)) rest
    ]
