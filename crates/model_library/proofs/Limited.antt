-- The generated test keeps to the limits of a litmus test.
use Rattle.std.proofs.Common.{◌≡◌, ℕ, zero, suc, ◌+◌, ◌/◌, ◌<◌, ◌≤◌, ◌^◌, true, List, length, refl, ap, arith, ◌∙◌, inl}
use Rattle.rand_pcg.specs.Lcg.{Lcg}
use Rattle.rand_pcg.specs.Pcg.{pcg32}
use Rattle.std.specs.Prelude.{codes}
use Rattle.litmus_syntax.specs.declared.call.Step.{Step}
use Rattle.litmus_syntax.specs.declared.pred.Pred.{Pred}
use Rattle.litmus_syntax.specs.Test.{Test}
use Rattle.litmus_syntax.specs.Limits.{IsWithinLimits}
use Rattle.model_library.specs.Generated.{begun, words_of, generated, generated_calls, generated_setup, generated_pred}
use Rattle.model_library.proofs.CallForms.{body_forms, body_inside, body_suits, body_closed, body_length, setup_forms}
use Rattle.model_library.proofs.QuestionForms.{pred_formed, pred_short}

pub words_length : (g : Lcg) (n : ℕ) → length (words_of g n) ≡ n
unfolding words_of
words_length g zero = refl
words_length g (suc n) = ap suc (words_length (pcg32 g).1 n)

pub within_limits : (seed calls : ℕ) → calls ≤ 32 → IsWithinLimits (generated seed calls)
unfolding generated
within_limits seed calls few =
    let words : List ℕ = words_of (begun seed) calls in
    let len : length words ≡ calls = words_length (begun seed) calls in
    let small : 1 + length words < 2 ^ 32 = omega (arith, len, few) in
    let less = body_length 1 words in
    record {
      name = refl {a = true};
      version = inl refl;
      some_sector = omega arith;
      sector = omega arith;
      block = omega arith;
      one_size = λ h. refl;
      setup = setup_forms;
      few_setup = omega arith;
      body = body_forms 1 words small;
      few_body = omega (arith, len, less, few);
      placed = body_suits 1 words small;
      closed = body_closed 1 words small;
      no_transactions = λ h. body_inside 1 words small;
      pred = pred_formed (calls / 8) (omega (arith, few));
      short = pred_short (calls / 8) (omega (arith, few));
    }

-- the test of such parts
abbrev pub test_of : ℕ → List ℕ → List Step → List Step → Pred → Test
test_of calls name setup body pred =
    record { name = name; block = 4; setup = setup; body = body; want = true; pred = pred; pred_line = 9 + calls; version = 1; sector = 4 }

pub is_generated : (seed calls : ℕ) (name : List ℕ) (setup body : List Step) (pred : Pred)
    → name ≡ codes "work" → setup ≡ generated_setup → body ≡ generated_calls 1 (words_of (begun seed) calls) → pred ≡ generated_pred (calls / 8)
    → test_of calls name setup body pred ≡ generated seed calls
unfolding generated
is_generated seed calls name setup body pred e f g h =
    ap (λ (n : List ℕ). test_of calls n setup body pred) e
    ∙ ap (λ (s : List Step). test_of calls (codes "work") s body pred) f
    ∙ ap (λ (b : List Step). test_of calls (codes "work") generated_setup b pred) g
    ∙ ap (λ (p : Pred). test_of calls (codes "work") generated_setup (generated_calls 1 (words_of (begun seed) calls)) p) h
