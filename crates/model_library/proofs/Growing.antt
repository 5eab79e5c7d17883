-- Calls and marks, one after another.
use Rattle.std.proofs.Common.{add-one, ◌≡◌, ℕ, zero, suc, ◌+◌, ◌*◌, ◌<◌, ◌≤◌, List, [], ◌∷◌, ◌++◌, length, take, get_or, ap, ◌∙◌, arith}
use Rattle.litmus_syntax.specs.declared.call.Step.{Step}
use Rattle.litmus_syntax.specs.declared.pred.Pred.TheVariants.{Or}
use Rattle.model_library.specs.Generated.{generated_call, generated_calls, lost_before, generated_pred}

-- the call of a number and a word, in its line
abbrev pub call_step : ℕ → ℕ → Step
call_step i word = record { line = 8 + i; call = generated_call i word }

more : (j k : ℕ) (words : List ℕ) (d : ℕ) → k < length words
    → generated_calls j (take (suc k) words) ≡ generated_calls j (take k words) ++ call_step (j + k) (get_or words k d) ∷ []
more j k [] d l = absurd (omega arith)
more j zero (word ∷ words) d l = let e : j ≡ j + 0 = omega arith in ap (λ (i : ℕ). call_step i word ∷ []) e
more j (suc k) (word ∷ words) d l =
    let e : j + 1 + k ≡ j + suc k = omega arith in
    ap (λ (steps : List Step). call_step j word ∷ steps)
    (more (j + 1) k words d (omega arith) ∙ ap (λ (i : ℕ). generated_calls (j + 1) (take k words) ++ call_step i (get_or words k d) ∷ []) e)

-- one call more
pub calls_more : (k : ℕ) (words : List ℕ) (d : ℕ) → k < length words
    → generated_calls 1 (take (k + 1) words) ≡ generated_calls 1 (take k words) ++ call_step (k + 1) (get_or words k d) ∷ []
calls_more k words d l =
    let e : 1 + k ≡ suc k = omega arith in
    rw add-one (more 1 k words d l ∙ ap (λ (i : ℕ). generated_calls 1 (take k words) ++ call_step i (get_or words k d) ∷ []) e)

-- one mark more
mark-more : (n : ℕ) → generated_pred (suc (suc n)) ≡ Or (generated_pred (suc n)) (lost_before (8 * (suc n + 1)))
mark-more n = let e : n + 2 ≡ suc n + 1 = omega arith in ap (λ (i : ℕ). Or (generated_pred (suc n)) (lost_before (8 * i))) e

pub pred_more : (n : ℕ) → 1 ≤ n → generated_pred (n + 1) ≡ Or (generated_pred n) (lost_before (8 * (n + 1)))
pred_more zero l = absurd (omega arith)
pred_more (suc n) l = let e : suc n + 1 ≡ suc (suc n) = omega arith in ap generated_pred e ∙ mark-more n
