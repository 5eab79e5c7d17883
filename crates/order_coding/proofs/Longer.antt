-- Values for further variables describe the same crashes.
use Rattle.std.proofs.Common.{◌≡◌, ◌≢◌, inl, inr, ℕ, ◌-◌, ◌≤◌, Bool, false, not, cond, List, ◌++◌, length, sym, ◌∙◌, ap, subst, arith}
use Rattle.std.proofs.Math.ListN.{get_or-append}
use Rattle.std.proofs.lemmas.Bool.{cases_eq}
use Rattle.clause_store.specs.declared.Lit.{Lit}
use Rattle.clause_store.specs.Clauses.{InVars}
use Rattle.clause_store.specs.Truth.{is_true}
use Rattle.fer_events.specs.declared.event.Crash.{Crash}
use Rattle.order_coding.specs.Variables.{IsNumber, order_vars, in_lit, before_lit}
use Rattle.order_coding.specs.Decoded.{is_in, is_before, Describes}
use Rattle.order_coding.proofs.GeneralLiterals.{in_lit-within, before_lit-within, is_before-is, is_before-same}

lit-kept : (v more : List Bool) (l : Lit) → InVars (length v) l → is_true (v ++ more) l ≡ is_true v l
lit-kept v more l is = ap (λ (b : Bool). cond l.positive b (not b)) (get_or-append v more false (l.var - 1) (omega (arith, is.0, is.1)))

module _ (n : ℕ) (v more : List Bool) (long : order_vars n ≤ length v) where
  in-same : (e : ℕ) → IsNumber n e → is_in (v ++ more) e ≡ is_in v e
  in-same e is = lit-kept v more (in_lit e) (let w = in_lit-within n e is in (w.0, omega (arith, w.1)))

  lit-same : (a b : ℕ) → IsNumber n a → IsNumber n b → a ≢ b → is_true (v ++ more) (before_lit n a b) ≡ is_true v (before_lit n a b)
  lit-same a b ia ib ne = lit-kept v more (before_lit n a b) (let w = before_lit-within n a b ia ib ne in (w.0, omega (arith, w.1)))

  before-same : (a b : ℕ) → IsNumber n a → IsNumber n b → is_before n (v ++ more) a b ≡ is_before n v a b
  before-same a b ia ib = elim (cases_eq a b) [
    | inl same ↦ is_before-same n (v ++ more) a b same ∙ sym (is_before-same n v a b same)
    | inr ne ↦ is_before-is n (v ++ more) a b ne ∙ lit-same a b ia ib ne ∙ sym (is_before-is n v a b ne)
  ]

  pub describes-kept : (crash : Crash) → Describes n v crash → Describes n (v ++ more) crash
  describes-kept crash d = record {
    inside = λ e is. (λ t. (d.inside e is).0 (sym (in-same e is) ∙ t), λ h. in-same e is ∙ (d.inside e is).1 h);
    before = λ a b ia ib. (λ t. (d.before a b ia ib).0 (sym (before-same a b ia ib) ∙ t), λ h. before-same a b ia ib ∙ (d.before a b ia ib).1 h);
  }
