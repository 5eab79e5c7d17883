-- The clauses of one cell, stage by stage.
use Rattle.std.proofs.Common.{◌≡◌, ℕ, ◌+◌, ◌≤◌, List, [], ◌∷◌, ◌++◌, length, ◌∙◌, ap, arith}
use Rattle.std.specs.List.{All, range_with_len}
use Rattle.std.proofs.lemmas.List.Elements.{All-map}
use Rattle.clause_store.specs.declared.Lit.{Lit}
use Rattle.clause_store.specs.Clauses.{Formula, InVars}
use Rattle.order_coding.specs.Growth.{IsBeginning, joined}
use Rattle.order_coding.proofs.GeneralLists.{All-from_contains, range_within}
use Rattle.order_coding.proofs.GeneralGrowth.{joined-joined, beginning-more, beginning-after}
use Rattle.value_coding.specs.LastClauses.{last_lit, some_last, last_clauses}
use Rattle.value_coding.specs.LastWriting.{lasts, nones}

pub some-named : (first vars : ℕ) (ws : List ℕ) → 1 ≤ first → first + length ws ≤ vars → All (InVars vars) (some_last first ws)
some-named first vars ws some room =
    All-map (InVars vars) (last_lit first) (range_with_len 0 (length ws + 1))
    (All-from_contains (λ j. InVars vars (last_lit first j)) (range_with_len 0 (length ws + 1)) (λ j h.
    let is = range_within 0 (length ws + 1) j h in (omega arith, omega (arith, is.1))))

module _ (n first : ℕ) (ws : List ℕ) (old s1 s2 new : Formula) (some : List Lit) (is : some ≡ some_last first ws) (e1 : s1 ≡ joined old (some ∷ [])) where
  first-stage : s1 ≡ joined old (some_last first ws ∷ [])
  first-stage = e1 ∙ ap (λ (clause : List Lit). joined old (clause ∷ [])) is

  pub in-lasts : IsBeginning new (joined s1 (lasts n first ws)) → IsBeginning new (joined old (last_clauses n first ws))
  in-lasts b =
      beginning-more new old ((some_last first ws ∷ []) ++ lasts n first ws) (nones first ws)
      (beginning-after new old s1 (some_last first ws ∷ []) (lasts n first ws) first-stage b)

  pub in-nones : s2 ≡ joined s1 (lasts n first ws) → IsBeginning new (joined s2 (nones first ws)) → IsBeginning new (joined old (last_clauses n first ws))
  in-nones e2 b =
      beginning-after new old s2 ((some_last first ws ∷ []) ++ lasts n first ws) (nones first ws)
      (e2 ∙ ap (λ (s : Formula). joined s (lasts n first ws)) first-stage ∙ joined-joined old (some_last first ws ∷ []) (lasts n first ws)) b
