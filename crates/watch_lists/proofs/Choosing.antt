-- Choosing the literals to be watched.
use Rattle.std.proofs.Common.{◌≡◌, ◌≢◌, ℕ, ◌+◌, ◌<◌, ◌≤◌, inl, inr, true, false, not, List, length, slice_get, Option, Some, None, MatchOption, ap, sym, ◌∙◌, subst, arith, below_more}
use Rattle.std.specs.List.{Contains}
use Rattle.std.proofs.lemmas.Option.{same_Some, slice_get_within}
use Rattle.clause_store.specs.declared.Lit.{Lit}
use Rattle.clause_store.specs.Clauses.{lit_eq}
use Rattle.trail_core.specs.Course.{Entry, Fails, HaveOnce}
use Rattle.trail_core.proofs.GeneralTrails.{once-same}
use Rattle.watch_lists.specs.Watching.{IsNotFalse, IsHighest}
use Rattle.watch_lists.specs.Going.{IsNotAbove, IsHigher, IsHighestBut}
use Rattle.trail_core.proofs.GeneralPlaces.{contains-get, get-contained}
use Rattle.clause_store.proofs.GeneralLiterals.{lit_cases}
use Rattle.trail_core.specs.Standing.{OthersFail}

abbrev pub LevelIs : List Entry → Lit → ℕ → Type 0
LevelIs es l x = (e : Entry) → Contains es e → e.lit.var ≡ l.var → x ≡ e.level

pub not-above : (es : List Entry) (m r : Lit) (x y : ℕ) → LevelIs es m x → LevelIs es r y → x ≤ y → IsNotAbove es m r
not-above es m r x y hx hy le = λ e f ce qe cf qf.
    omega (arith, le, hx e ce (ap (λ (k : Lit). k.var) qe), hy f cf (ap (λ (k : Lit). k.var) qf))

not-above-trans : (es : List Entry) (m b r : Lit) → Fails es b → IsNotAbove es m b → IsNotAbove es b r → IsNotAbove es m r
not-above-trans es m b r fb h k = λ e f ce qe cf qf.
    omega (arith, h e fb.0 ce qe fb.1 fb.2, k fb.0 f fb.1 fb.2 cf qf)

-- the first n literals were looked at
abbrev pub IsBest : List Entry → List Lit → Lit → ℕ → Option Lit → Type 0
IsBest es clause first n o =
    MatchOption o ((k : ℕ) (m : Lit) → k < n → slice_get clause k ≡ Some m → m ≡ first)
    (λ b. Contains clause b × (b ≢ first) × ((k : ℕ) (m : Lit) → k < n → slice_get clause k ≡ Some m → m ≢ first → IsNotAbove es m b))

pub best-same : (es : List Entry) (clause : List Lit) (first : Lit) (n : ℕ) (o : Option Lit) (m : Lit) → slice_get clause n ≡ Some m → m ≡ first → IsBest es clause first n o → IsBest es clause first (n + 1) o
best-same es clause first n None m at is h =
    λ k l lt e. below_more (λ (j : ℕ). (x : Lit) → slice_get clause j ≡ Some x → x ≡ first) n (λ j lj x ej. h j x lj ej) (λ x ej. same_Some x m (sym ej ∙ at) ∙ is) k lt l e
best-same es clause first n (Some b) m at is h = (
  h.0,
  h.1,
  λ k l lt e ne. below_more (λ (j : ℕ). (x : Lit) → slice_get clause j ≡ Some x → x ≢ first → IsNotAbove es x b) n (λ j lj x ej nx. h.2 j x lj ej nx) (λ x ej nx. absurd (nx (same_Some x m (sym ej ∙ at) ∙ is))) k lt l e ne,
)

pub best-more : (es : List Entry) (clause : List Lit) (first : Lit) (n : ℕ) (o : Option Lit) (m r : Lit) → HaveOnce es → OthersFail es clause first → slice_get clause n ≡ Some m → m ≢ first → IsHigher es o m r → IsBest es clause first n o → IsBest es clause first (n + 1) (Some r)
best-more es clause first n None m r once fail at ne is h = (
  (let P : Lit → Type 0 = λ x. Contains clause x in subst P (sym is) (contains-get clause n m at)),
  λ e. ne (sym is ∙ e),
  λ k l lt e nl. below_more (λ (j : ℕ). (x : Lit) → slice_get clause j ≡ Some x → x ≢ first → IsNotAbove es x r) n
      (λ j lj x ej nx. absurd (nx (h j x lj ej)))
      (λ x ej nx. self x (same_Some x m (sym ej ∙ at) ∙ sym is))
      k lt l e nl,
)
  where
    self : (x : Lit) → x ≡ r → IsNotAbove es x r
    self x q = λ e f ce qe cf qf.
        let same : e ≡ f = once-same es e f once ce cf (ap (λ (k : Lit). k.var) qe ∙ ap (λ (k : Lit). k.var) q ∙ sym (ap (λ (k : Lit). k.var) qf)) in
        let levels : e.level ≡ f.level = ap (λ (k : Entry). k.level) same in
        omega (arith, levels)
best-more es clause first n (Some b) m r once fail at ne is h = (
  elim is.0 [
    | inl q ↦ (let P : Lit → Type 0 = λ x. Contains clause x in subst P (sym q) (contains-get clause n m at))
    | inr q ↦ (let P : Lit → Type 0 = λ x. Contains clause x in subst P (sym q) h.0)
  ],
  elim is.0 [
    | inl q ↦ λ e. ne (sym q ∙ e)
    | inr q ↦ λ e. h.1 (sym q ∙ e)
  ],
  λ k l lt e nl. below_more (λ (j : ℕ). (x : Lit) → slice_get clause j ≡ Some x → x ≢ first → IsNotAbove es x r) n
      (λ j lj x ej nx. not-above-trans es x b r (fail b h.0 h.1) (h.2 j x lj ej nx) is.2)
      (λ x ej nx. (let P : Lit → Type 0 = λ y. IsNotAbove es y r in subst P (sym (same_Some x m (sym ej ∙ at))) is.1))
      k lt l e nl,
)

pub best-all : (es : List Entry) (clause : List Lit) (first : Lit) (o : Option Lit) → IsBest es clause first (length clause) o → MatchOption o ((m : Lit) → Contains clause m → m ≡ first) (λ b. Contains clause b × (b ≢ first) × IsHighestBut es clause first b)
best-all es clause first None h = λ m c. let at = get-contained clause m c in h at.0 m (slice_get_within clause at.0 m at.1) at.1
best-all es clause first (Some b) h = (h.0, h.1, λ m c ne. let at = get-contained clause m c in h.2 at.0 m (slice_get_within clause at.0 m at.1) at.1 ne)

pub highest-from : (es : List Entry) (clause : List Lit) (first b : Lit) → IsNotFalse es first → IsHighestBut es clause first b → IsHighest es clause b
highest-from es clause first b nf h m c e f ce qe cf qf = elim (lit_cases m first) [
  | inl same ↦ absurd (nf (let P : Lit → Type 0 = λ x. Fails es x in subst P same.0 (e, ce, qe)))
  | inr apart ↦ h m c apart.0 e f ce qe cf qf
]

-- a clause with two different literals has another one beside each
pub another : (clause : List Lit) (first : Lit) → ((l : Lit) × (m : Lit) × Contains clause l × Contains clause m × (l ≢ m)) → (m : Lit) × Contains clause m × (m ≢ first)
another clause first (l, m, hl, hm, ne) = elim (lit_cases l first) [
  | inl same ↦ (m, hm, λ e. ne (same.0 ∙ sym e))
  | inr apart ↦ (l, hl, apart.0)
]

-- what a test of two literals says
pub apart-from : (a b : Lit) → not (lit_eq a b) ≡ true → a ≢ b
apart-from a b e = elim (lit_cases a b) [
  | inl same ↦ (let bad : false ≡ true = ap not (sym same.1) ∙ e in cc)
  | inr apart ↦ apart.0
]

pub same-from : (a b : Lit) → not (lit_eq a b) ≡ false → a ≡ b
same-from a b e = elim (lit_cases a b) [
  | inl same ↦ same.0
  | inr apart ↦ (let bad : true ≡ false = ap not (sym apart.1) ∙ e in cc)
]
