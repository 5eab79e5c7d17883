-- Variables without a value, by the list of the values.
use Rattle.std.proofs.Common.{◌≡◌, ℕ, ◌-◌, ◌≤◌, Bool, List, length, get_or, Option, Some, None, IfNone, refl, ◌∙◌, ap, subst, arith}
use Rattle.std.proofs.lemmas.Option.{slice_get-get_or}
use Rattle.clause_store.specs.declared.Lit.{Lit}
use Rattle.trail_core.specs.Course.{Course, IsValue}
use Rattle.branch_rules.specs.Choosing.{AreSet}
use Rattle.cdcl_core.specs.Steps.{HaveValues}
use Rattle.cdcl_core.proofs.Going.{not-free}

module _ (t : Course) (values : List (Option Bool)) (len : length values ≡ t.vars) (each : (v : ℕ) → 1 ≤ v → v ≤ t.vars → IsValue t.entries v (get_or values (v - 1) None)) where
  have-values : AreSet values → HaveValues t
  have-values set v lo hi free = split (get_or values (v - 1) None) refl
    where
      split : (x : Option Bool) → get_or values (v - 1) None ≡ x → ⊥
      split None e = set v (lo, slice_get-get_or values (v - 1) None (omega (arith, lo, hi, len)) ∙ ap (λ (y : Option Bool). Some y) e)
      split (Some b) e = not-free t.entries v b (subst (λ y. IsValue t.entries v y) e (each v lo hi)) free

  pub none-free : (o : Option Lit) → IfNone o (AreSet values) → IfNone o (HaveValues t)
  none-free None h = have-values h
  none-free (Some l) h = tt
