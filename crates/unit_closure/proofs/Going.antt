-- Lists that were gone through, and the values of literals.
use Rattle.std.proofs.Common.{◌≡◌, ℕ, ◌+◌, ◌<◌, ◌≤◌, Bool, true, false, not, List, length, slice_get, get_or, Some, MatchBool, refl, ap, sym, ◌∙◌, subst, arith, below_more}
use Rattle.std.proofs.Math.Bool.{beq}
use Rattle.std.specs.List.{Contains}
use Rattle.std.proofs.lemmas.Option.{same_Some, slice_get_within, slice_get-get_or}
use Rattle.clause_store.specs.declared.Lit.{Lit}
use Rattle.trail_core.specs.Course.{Entry, Holds, HasNoValue, IsValue, HaveOnce}
use Rattle.trail_core.proofs.GeneralTrails.{not-both}
use Rattle.trail_core.proofs.GeneralPlaces.{get-contained}

-- one more literal was looked at, and all were
pub each-more : (P : Lit → Type 0) (ls : List Lit) (n : ℕ) (d : Lit) → n < length ls → P (get_or ls n d)
    → ((k : ℕ) (m : Lit) → k < n → slice_get ls k ≡ Some m → P m) → (k : ℕ) (m : Lit) → k < n + 1 → slice_get ls k ≡ Some m → P m
each-more P ls n d lt now h k m le at =
    below_more (λ (j : ℕ). (x : Lit) → slice_get ls j ≡ Some x → P x) n (λ j lj x ej. h j x lj ej)
    (λ x ej. subst P (same_Some (get_or ls n d) x (sym (slice_get-get_or ls n d lt) ∙ ej)) now) k le m at

pub each-all : (P : Lit → Type 0) (ls : List Lit) (n : ℕ) → length ls ≤ n → ((k : ℕ) (m : Lit) → k < n → slice_get ls k ≡ Some m → P m) → (l : Lit) → Contains ls l → P l
each-all P ls n le h l c = (let at = get-contained ls l c in h at.0 l (omega (arith, le, slice_get_within ls at.0 l at.1)) at.1)

pub not-free : (es : List Entry) (v : ℕ) (b : Bool) → IsValue es v (Some b) → HasNoValue es v → ⊥
not-free es v b h free = free h.0 h.1 (ap (λ (l : Lit). l.var) h.2)

pub by-value : (es : List Entry) (l : Lit) (b : Bool) → HaveOnce es → IsValue es l.var (Some b) → MatchBool (beq b l.positive) (Holds es l) (Holds es l → ⊥)
by-value es l b once h = split b l.positive refl h
  where
    split : (a q : Bool) → q ≡ l.positive → Holds es (record { var = l.var; positive = a }) → MatchBool (beq a q) (Holds es l) (Holds es l → ⊥)
    split true true e k = (let P : Bool → Type 0 = λ x. Holds es (record { var = l.var; positive = x }) in subst P e k)
    split false false e k = (let P : Bool → Type 0 = λ x. Holds es (record { var = l.var; positive = x }) in subst P e k)
    split true false e k = λ g. not-both es l once g (let P : Bool → Type 0 = λ x. Holds es (record { var = l.var; positive = not x }) in subst P e k)
    split false true e k = λ g. not-both es l once g (let P : Bool → Type 0 = λ x. Holds es (record { var = l.var; positive = not x }) in subst P e k)

pub never : (A : Type 0) → true ≡ false → A
never A e = cc
