-- Each test has one outcome, and inserting first changes none.
use Rattle.std.proofs.Common.{◌≡◌, ◌⊎◌, ℕ, ◌+◌, List, [], ◌∷◌, Option, Some, None, Result, Ok, Err, refl, sym, ap, subst, inl, inr}
use Rattle.litmus_syntax.specs.Test.{Test}
use Rattle.litmus_syntax.specs.Sites.{with_sites}
use Rattle.litmus_syntax.specs.declared.call.Step.{Step}
use Rattle.litmus_syntax.specs.declared.site.Site.{Site}
use Rattle.call_events.specs.declared.files.Files.{Files}
use Rattle.call_events.specs.declared.files.Progress.{Progress}
use Rattle.call_events.specs.declared.making.Sizes.{Sizes}
use Rattle.call_events.specs.declared.call_kind.CallKind.{CallKind}
use Rattle.call_events.specs.declared.call_kind.CallFault.{CallFault}
use Rattle.call_events.specs.declared.call_kind.CallFault.TheVariants.{Refused}
use Rattle.call_events.specs.Refusals.{refusal}
use Rattle.call_events.specs.Found.{no_files}
use Rattle.call_events.specs.Running.{unless_refused, after_setup_call, run_setup, after_call, body_refusal, run_body, begun}
use Rattle.call_events.specs.Asking.{asked, question_refusal}
use Rattle.call_events.specs.Resolved.{trace_of, sizes_of, asked_of, body_of, resolved}

-- an outcome is a value or a refusal
abbrev pub IsDecided : {X : Type 0} → Result X CallFault → Type 0
IsDecided {X} r = ((x : X) × (r ≡ Ok x)) ⊎ ((line : ℕ) × (kind : CallKind) × (r ≡ Err (Refused line kind)))

decided_unless : {X : Type 0} (o : Option CallKind) (line : ℕ) (next : Result X CallFault) → IsDecided next → IsDecided (unless_refused o line next)
decided_unless None line next decided = decided
decided_unless (Some kind) line next decided = inr (line, kind, refl)

pub setup_decided : (s : Files) (steps : List Step) → IsDecided (run_setup s steps)
setup_decided s [] = inl (s, refl)
setup_decided s (step ∷ steps) = decided_unless (refusal s step.call) step.line (run_setup (after_setup_call s step.call) steps) (setup_decided (after_setup_call s step.call) steps)

pub run_decided : (sizes : Sizes) (number : ℕ) (p : Progress) (steps : List Step) → IsDecided (run_body sizes number p steps)
run_decided sizes number p [] = inl (p, refl)
run_decided sizes number p (step ∷ steps) =
    decided_unless (body_refusal sizes number p step.call) step.line (run_body sizes (number + 1) (after_call sizes number p step.call) steps)
    (run_decided sizes (number + 1) (after_call sizes number p step.call) steps)

asked_decided : (litmus : Test) (setup : Files) (r : Result Progress CallFault) → IsDecided r → IsDecided (asked_of litmus setup r)
asked_decided litmus setup r (inl left) =
    subst (λ (q : Result Progress CallFault). IsDecided (asked_of litmus setup q)) (sym left.1)
    (decided_unless (question_refusal left.0.files litmus.pred) litmus.pred_line (Ok (trace_of setup (asked left.0.files litmus.pred) left.0.events)) (inl (_, refl)))
asked_decided litmus setup r (inr refused) =
    subst (λ (q : Result Progress CallFault). IsDecided (asked_of litmus setup q)) (sym refused.2) (inr (refused.0, refused.1, refl))

body_decided : (litmus : Test) (sites : List Site) (r : Result Files CallFault) → IsDecided r → IsDecided (body_of litmus sites r)
body_decided litmus sites r (inl left) =
    subst (λ (q : Result Files CallFault). IsDecided (body_of litmus sites q)) (sym left.1)
    (asked_decided litmus left.0 (run_body (sizes_of litmus) 1 (begun left.0) (with_sites 1 litmus.body sites))
    (run_decided (sizes_of litmus) 1 (begun left.0) (with_sites 1 litmus.body sites)))
body_decided litmus sites r (inr refused) =
    subst (λ (q : Result Files CallFault). IsDecided (body_of litmus sites q)) (sym refused.2) (inr (refused.0, refused.1, refl))

pub one_of_them : (litmus : Test) (sites : List Site) → IsDecided (resolved litmus sites)
unfolding resolved
one_of_them litmus sites = body_decided litmus sites (run_setup no_files litmus.setup) (setup_decided no_files litmus.setup)

-- with no sites the body stays as it is
without_sites : (number : ℕ) (body : List Step) → with_sites number body [] ≡ body
without_sites number [] = refl
without_sites number (step ∷ steps) = ap (λ (rest : List Step). step ∷ rest) (without_sites (number + 1) steps)

-- a body is run alike where it is the same
body_same : (litmus : Test) (sites : List Site) (r : Result Files CallFault)
    → body_of (record litmus { body = with_sites 1 litmus.body sites }) [] r ≡ body_of litmus sites r
body_same litmus sites (Err fault) = refl
body_same litmus sites (Ok setup) =
    ap (λ (body : List Step). asked_of litmus setup (run_body (sizes_of litmus) 1 (begun setup) body)) (without_sites 1 (with_sites 1 litmus.body sites))

pub inserted_first : (litmus : Test) (sites : List Site) → resolved (record litmus { body = with_sites 1 litmus.body sites }) [] ≡ resolved litmus sites
unfolding resolved
inserted_first litmus sites = body_same litmus sites (run_setup no_files litmus.setup)
