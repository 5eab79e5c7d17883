-- General: which literal says that one event stands before another. Other crates may cite these lemmas.
use Rattle.std.proofs.Common.{◌≡◌, ◌≢◌, inl, inr, ℕ, ◌<◌, ◌≤◌, ltb, List, Bool, true, false, refl, sym, subst, arith}
use Rattle.std.proofs.lemmas.Bool.{eq-eqb, lt-ltb}
use Rattle.std.proofs.lemmas.Bool.Decides.{nat_tests}
use Rattle.clause_store.specs.Clauses.{InVars}
use Rattle.clause_store.specs.Truth.{is_true}
use Rattle.order_coding.specs.Variables.{IsNumber, order_vars, pair_var, in_lit, before_lit}
use Rattle.order_coding.specs.Decoded.{is_before}
use Rattle.order_coding.proofs.GeneralLists.{eq-no, order-of}
use Rattle.order_coding.proofs.GeneralNumbering.{pair_var_within}

not-below : (a b : ℕ) → b ≤ a → ltb a b ≡ false
not-below a b h = grind (arith, nat_tests)

pub before_lit-up : (n a b : ℕ) → a < b → before_lit n a b ≡ record { var = pair_var n a b; positive = true }
before_lit-up n a b h = rw (lt-ltb a b h) refl

pub before_lit-down : (n a b : ℕ) → b < a → before_lit n a b ≡ record { var = pair_var n b a; positive = false }
before_lit-down n a b h = rw (not-below a b (omega arith)) refl

pub is_before-is : (n : ℕ) (v : List Bool) (a b : ℕ) → a ≢ b → is_before n v a b ≡ is_true v (before_lit n a b)
is_before-is n v a b ne = rw (eq-no a b ne) refl

pub is_before-same : (n : ℕ) (v : List Bool) (a b : ℕ) → a ≡ b → is_before n v a b ≡ false
is_before-same n v a b e = rw (eq-eqb a b e) refl

-- the literals are of the order's variables
pub in_lit-within : (n e : ℕ) → IsNumber n e → InVars (order_vars n) (in_lit e)
in_lit-within n e is = (is.0, omega (arith, is.1))

pub before_lit-within : (n a b : ℕ) → IsNumber n a → IsNumber n b → a ≢ b → InVars (order_vars n) (before_lit n a b)
before_lit-within n a b ia ib ne = elim (order-of a b) [
  | inl l ↦ subst (InVars (order_vars n)) (sym (before_lit-up n a b l)) (pair_var_within n a b ia.0 l ib.1)
  | inr (inl same) ↦ absurd (ne same)
  | inr (inr l) ↦ subst (InVars (order_vars n)) (sym (before_lit-down n a b l)) (pair_var_within n b a ib.0 l ia.1)
]
