-- One call more of a run.
use Rattle.std.proofs.Common.{◌≡◌, ℕ, ◌+◌, ◌<◌, ◌≤◌, List, ◌∷◌, length, drop, get_or, Option, Some, None, Ok, Err, sym, ◌∙◌, ap}
use Rattle.std.proofs.lemmas.List.{drop_more, drop_all}
use Rattle.litmus_syntax.specs.declared.call.Step.{Step}
use Rattle.call_events.specs.declared.files.Files.{Files}
use Rattle.call_events.specs.declared.files.Progress.{Progress}
use Rattle.call_events.specs.declared.making.Sizes.{Sizes}
use Rattle.call_events.specs.declared.call_kind.CallKind.{CallKind}
use Rattle.call_events.specs.declared.call_kind.CallFault.TheVariants.{Refused}
use Rattle.call_events.specs.Refusals.{refusal}
use Rattle.call_events.specs.Running.{unless_refused, after_setup_call, run_setup, after_call, body_refusal, run_body}

pub next_step : (steps : List Step) (i : ℕ) (step : Step) → i < length steps → step ≡ get_or steps i step → drop i steps ≡ step ∷ drop (i + 1) steps
next_step steps i step there is = drop_more steps i step there ∙ ap (λ (s : Step). s ∷ drop (i + 1) steps) (sym is)

-- a call of the setup is refused
pub setup_refused : (files : Files) (steps : List Step) (i : ℕ) (step : Step) (kind : CallKind) → i < length steps → step ≡ get_or steps i step
    → Some kind ≡ refusal files step.call → run_setup files (drop i steps) ≡ Err (Refused step.line kind)
setup_refused files steps i step kind there is refused =
    ap (run_setup files) (next_step steps i step there is)
    ∙ ap (λ (o : Option CallKind). unless_refused o step.line (run_setup (after_setup_call files step.call) (drop (i + 1) steps))) (sym refused)

-- a call of the setup is accepted
pub setup_more : (files : Files) (steps : List Step) (i : ℕ) (step : Step) → i < length steps → step ≡ get_or steps i step
    → None ≡ refusal files step.call → run_setup files (drop i steps) ≡ run_setup (after_setup_call files step.call) (drop (i + 1) steps)
setup_more files steps i step there is accepted =
    ap (run_setup files) (next_step steps i step there is)
    ∙ ap (λ (o : Option CallKind). unless_refused o step.line (run_setup (after_setup_call files step.call) (drop (i + 1) steps))) (sym accepted)

-- all calls of the setup are accepted
pub setup_done : (files : Files) (steps : List Step) (i : ℕ) → length steps ≤ i → run_setup files (drop i steps) ≡ Ok files
setup_done files steps i all = ap (run_setup files) (drop_all i steps all)

-- a call of a body is refused
pub body_refused : (sizes : Sizes) (number : ℕ) (p : Progress) (steps : List Step) (i : ℕ) (step : Step) (kind : CallKind) → i < length steps → step ≡ get_or steps i step
    → Some kind ≡ body_refusal sizes number p step.call → run_body sizes number p (drop i steps) ≡ Err (Refused step.line kind)
body_refused sizes number p steps i step kind there is refused =
    ap (run_body sizes number p) (next_step steps i step there is)
    ∙ ap (λ (o : Option CallKind). unless_refused o step.line (run_body sizes (number + 1) (after_call sizes number p step.call) (drop (i + 1) steps))) (sym refused)

-- a call of a body is accepted
pub body_more : (sizes : Sizes) (number : ℕ) (p : Progress) (steps : List Step) (i : ℕ) (step : Step) → i < length steps → step ≡ get_or steps i step
    → None ≡ body_refusal sizes number p step.call → run_body sizes number p (drop i steps) ≡ run_body sizes (number + 1) (after_call sizes number p step.call) (drop (i + 1) steps)
body_more sizes number p steps i step there is accepted =
    ap (run_body sizes number p) (next_step steps i step there is)
    ∙ ap (λ (o : Option CallKind). unless_refused o step.line (run_body sizes (number + 1) (after_call sizes number p step.call) (drop (i + 1) steps))) (sym accepted)

-- all calls of a body are accepted
pub body_done : (sizes : Sizes) (number : ℕ) (p : Progress) (steps : List Step) (i : ℕ) → length steps ≤ i → run_body sizes number p (drop i steps) ≡ Ok p
body_done sizes number p steps i all = ap (run_body sizes number p) (drop_all i steps all)
