-- Lines lead from a stage to one other at most.
use Rattle.std.proofs.Common.{◌≡◌, ℕ, ◌<◌, ◌≤◌, Bool, List, [], ◌∷◌, ◌++◌, length, refl, sym, ◌∙◌, ap, ap₂, subst, arith, Option}
use Rattle.std.specs.Prelude.{codes}
use Rattle.std.specs.List.{All}
use Rattle.std.proofs.lemmas.List.Elements.{All-nil, All-weaker}
use Rattle.litmus_syntax.specs.declared.site.SiteKind.{SiteKind}
use Rattle.numerals.proofs.VisibleLines.{Narrow}
use Rattle.clause_store.specs.declared.Lit.{Lit}
use Rattle.clause_store.specs.Clauses.{InVars}
use Rattle.proof_log.specs.Logs.{Logged}
use Rattle.proof_log.specs.LogText.{clause_line, literals_text}
use Rattle.proof_log.specs.Stages.{Stage, AreSites, begun, with_clause, Adds, Steps, Runs}
use Rattle.proof_log.specs.Stages.Stage.{fresh, headed, sited, within, ended}
use Rattle.proof_log.specs.Stages.Adds.{clause, question, closing, end}
use Rattle.proof_log.proofs.OneWay.{one_head, one_sites, one_formula, one_clause, no_question, no_end}

pub narrow : (ns : List ℕ) → AreSites ns → Narrow ns
narrow ns are = All-weaker (λ n. (1 ≤ n) × (n ≤ 4294967295)) (λ n. n ≤ 4294967295) (λ n h. h.1) ns are.1

no_zero : (lits : List Lit) → 0 < length lits → lits ≡ [] → ⊥
no_zero lits some e = omega (arith, some, ap (λ (l : List Lit). length l) e)

pub filled : (second : Bool) (l : Logged) (lits : List Lit) → l.part.vars ≤ 4294967295 → All (InVars l.part.vars) lits → 0 < length lits → clause_line lits ≡ clause_line [] → ⊥
filled second l lits small all some e = no_zero lits some (one_clause l.part.vars lits [] small all (All-nil (InVars l.part.vars)) e)

pub differs : (xs ys : List ℕ) → xs ≡ ys → length xs ≡ length ys
differs xs ys e = ap (λ (l : List ℕ). length l) e

one_addition : (second : Bool) (l : Logged) (line : List ℕ) (t u : Stage) → Adds second l line t → Adds second l line u → t ≡ u
one_addition second l line t u (clause xs off (small, some, all) e n) (clause ys off' (small', some', all') e' n') =
    n ∙ ap (λ (z : List Lit). within second (with_clause l z)) (one_clause l.part.vars xs ys small all all' (sym e ∙ e')) ∙ sym n'
one_addition second l line t u (question off s q e n) (question off' s' q' e' n') = n ∙ sym n'
one_addition second l line t u (closing off a e n) (closing off' a' e' n') = n ∙ sym n'
one_addition second l line t u (end a e n) (end a' e' n') = n ∙ sym n'
one_addition second l line t u (clause xs off is e n) (question off' s q e' n') = absurd (no_question (literals_text xs) (sym e ∙ e'))
one_addition second l line t u (question off' s q e' n') (clause xs off is e n) = absurd (no_question (literals_text xs) (sym e ∙ e'))
one_addition second l line t u (clause xs off (small, some, all) e n) (closing off' a e' n') = absurd (filled second l xs small all some (sym e ∙ e'))
one_addition second l line t u (closing off' a e' n') (clause xs off (small, some, all) e n) = absurd (filled second l xs small all some (sym e ∙ e'))
one_addition second l line t u (clause xs off is e n) (end a e' n') = absurd (no_end (literals_text xs) (sym e ∙ e'))
one_addition second l line t u (end a e' n') (clause xs off is e n) = absurd (no_end (literals_text xs) (sym e ∙ e'))
one_addition second l line t u (question off s q e n) (closing off' a e' n') = let bad : 8 ≡ 1 = differs (codes "question") (codes "0") (sym e ∙ e') in absurd (omega (arith, bad))
one_addition second l line t u (closing off' a e' n') (question off s q e n) = let bad : 8 ≡ 1 = differs (codes "question") (codes "0") (sym e ∙ e') in absurd (omega (arith, bad))
one_addition second l line t u (question off s q e n) (end a e' n') = let bad : 8 ≡ 3 = differs (codes "question") (codes "end") (sym e ∙ e') in absurd (omega (arith, bad))
one_addition second l line t u (end a e' n') (question off s q e n) = let bad : 8 ≡ 3 = differs (codes "question") (codes "end") (sym e ∙ e') in absurd (omega (arith, bad))
one_addition second l line t u (closing off a e n) (end a' e' n') = let bad : 1 ≡ 3 = differs (codes "0") (codes "end") (sym e ∙ e') in absurd (omega (arith, bad))
one_addition second l line t u (end a' e' n') (closing off a e n) = let bad : 1 ≡ 3 = differs (codes "0") (codes "end") (sym e ∙ e') in absurd (omega (arith, bad))

-- one line leads to one stage
pub one_step : (s : Stage) (line : List ℕ) (t u : Stage) → Steps s line t → Steps s line u → t ≡ u
one_step fresh line t u (a, e, n) (b, e', n') = n ∙ ap (λ (x : Bool). headed x) (one_head a b (sym e ∙ e')) ∙ sym n'
one_step (headed second) line t u (k, ns, (are, off, made), e, n) (m, ms, (are', off', made'), e', n') =
    let both = one_sites k m ns ms (narrow ns are) (narrow ms are') off off' (sym e ∙ e') in
    n ∙ ap₂ (λ (x : Option SiteKind) (xs : List ℕ). sited second x xs) both.0 both.1 ∙ sym n'
one_step (sited second kind sites) line t u (v, c, a, b, e, n) (w, d, a', b', e', n') =
    let both = one_formula v c w d a b a' b' (sym e ∙ e') in
    n ∙ ap₂ (λ (x y : ℕ). within second (begun kind sites x y)) both.0 both.1 ∙ sym n'
one_step (within second l) line t u a b = one_addition second l line t u a b
one_step (ended l) line t u a b = absurd a

pub one_run : (lines : List (List ℕ)) (s t u : Stage) → Runs s lines t → Runs s lines u → t ≡ u
one_run [] s t u r r' = sym r ∙ r'
one_run (line ∷ lines) s t u (n, step, rest) (m, step', rest') =
    one_run lines m t u (subst (λ (x : Stage). Runs x lines t) (one_step s line n m step step') rest) rest'

pub joined : (xs ys : List (List ℕ)) (s t u : Stage) → Runs s xs t → Runs t ys u → Runs s (xs ++ ys) u
joined [] ys s t u e r = subst (λ (x : Stage). Runs x ys u) (sym e) r
joined (x ∷ xs) ys s t u (n, step, rest) r = (n, step, joined xs ys n t u rest r)

pub parted : (xs ys : List (List ℕ)) (s u : Stage) → Runs s (xs ++ ys) u → (t : Stage) × Runs s xs t × Runs t ys u
parted [] ys s u r = (s, refl, r)
parted (x ∷ xs) ys s u (n, step, rest) = let p = parted xs ys n u rest in (p.0, (n, step, p.1), p.2)
