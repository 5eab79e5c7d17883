-- The run of a test that has events. Its body is short: at most 128 of its calls are no syncs, and each sync is an event.
use Rattle.std.proofs.Common.{◌≡◌, ℕ, ◌+◌, ◌-◌, ◌<◌, ◌≤◌, List, [], ◌∷◌, length, drop, get_or, Option, Some, None, Result, Ok, Err, refl, ◌∙◌, ap, subst, arith, length-drop}
use Rattle.std.proofs.lemmas.List.{drop_more}
use Rattle.litmus_syntax.specs.declared.call.Step.{Step}
use Rattle.litmus_syntax.specs.Limits.{IsWithinLimits}
use Rattle.litmus_syntax.specs.declared.site.Site.{Site}
use Rattle.litmus_syntax.specs.Sites.{with_sites}
use Rattle.litmus_syntax.specs.Test.{Test}
use Rattle.fer_events.specs.Tables.{Trace}
use Rattle.call_events.specs.declared.files.Files.{Files}
use Rattle.call_events.specs.declared.files.Progress.{Progress}
use Rattle.call_events.specs.declared.making.Sizes.{Sizes}
use Rattle.call_events.specs.declared.call_kind.CallKind.{CallKind}
use Rattle.call_events.specs.declared.call_kind.CallFault.{CallFault}
use Rattle.call_events.specs.declared.call_kind.CallFault.TheVariants.{Refused}
use Rattle.call_events.specs.Found.{no_files}
use Rattle.call_events.specs.Running.{unless_refused, run_setup, after_call, body_refusal, run_body, begun}
use Rattle.call_events.specs.Asking.{asked, question_refusal}
use Rattle.call_events.specs.Resolved.{trace_of, sizes_of, asked_of, body_of, resolved, HasEvents}
use Rattle.call_events.proofs.Counting.{changes, few_more}

-- what isn't refused
pub accepted : {X : Type 0} (o : Option CallKind) (line : ℕ) (next : Result X CallFault) (x : X) → unless_refused o line next ≡ Ok x → (o ≡ None) × (next ≡ Ok x)
accepted None line next x h = (refl, h)
accepted (Some kind) line next x h = absurd (let bad : ◌≡◌ {A = Result _ CallFault} (Err (Refused line kind)) (Ok x) = h in cc)

pub same_ok : {X : Type 0} (x y : X) → ◌≡◌ {A = Result X CallFault} (Ok x) (Ok y) → x ≡ y
same_ok x y h = cc

same_head : {X : Type 0} (x y : X) (xs ys : List X) → x ∷ xs ≡ y ∷ ys → (x ≡ y) × (xs ≡ ys)
same_head x y xs ys h = (cc, cc)

run_long : (sizes : Sizes) (body : List Step) (i : ℕ) (p q : Progress) (rest : List Step) → rest ≡ drop i body → run_body sizes (i + 1) p rest ≡ Ok q
    → i + changes rest ≤ changes body + length p.events → length body ≤ changes body + length q.events
run_long sizes body i p q [] is h few =
    let short : 0 ≡ length body - i = ap (λ (l : List Step). length l) is ∙ length-drop i body in
    omega (arith, few, short, ap (λ (r : Progress). length r.events) (same_ok p q h))
run_long sizes body i p q (step ∷ rest) is h few =
    let long : length (step ∷ rest) ≡ length body - i = ap (λ (l : List Step). length l) is ∙ length-drop i body in
    let there : i < length body = omega (arith, long) in
    let both = same_head step (get_or body i step) rest (drop (i + 1) body) (is ∙ drop_more body i step there) in
    let next = accepted (body_refusal sizes (i + 1) p step.call) step.line (run_body sizes (i + 1 + 1) (after_call sizes (i + 1) p step.call) rest) q h in
    let before : i + changes (drop i body) ≤ changes body + length p.events = omega (arith, few, ap changes is) in
    let more = few_more sizes (i + 1) p body i step there both.0 before in
    run_long sizes body (i + 1) (after_call sizes (i + 1) p step.call) q rest both.1 next.1 (omega (arith, more, ap changes both.1))

-- what a run with these events left
pub record IsRunOf (litmus : Test) (body : List Step) (t : Trace) : Type 0 where
  pub setup : Files
  pub begins : run_setup no_files litmus.setup ≡ Ok setup
  pub behind : Progress
  pub ends : run_body (sizes_of litmus) 1 (begun setup) body ≡ Ok behind
  pub asks : question_refusal behind.files litmus.pred ≡ None
  pub trace : trace_of setup (asked behind.files litmus.pred) behind.events ≡ t

run_asked : (litmus : Test) (setup : Files) (t : Trace) (body : List Step) (run : Result Progress CallFault) → run_setup no_files litmus.setup ≡ Ok setup → run_body (sizes_of litmus) 1 (begun setup) body ≡ run
    → asked_of litmus setup run ≡ Ok t → IsRunOf litmus body t
run_asked litmus setup t body (Err fault) begins ends h = absurd (let bad : ◌≡◌ {A = Result Trace CallFault} (Err fault) (Ok t) = h in cc)
run_asked litmus setup t body (Ok p) begins ends h =
    let both = accepted (question_refusal p.files litmus.pred) litmus.pred_line (Ok (trace_of setup (asked p.files litmus.pred) p.events)) t h in
    record { setup = setup; begins = begins; behind = p; ends = ends; asks = both.0; trace = same_ok (trace_of setup (asked p.files litmus.pred) p.events) t both.1 }

run_begun : (litmus : Test) (sites : List Site) (t : Trace) (setup : Result Files CallFault) → run_setup no_files litmus.setup ≡ setup → body_of litmus sites setup ≡ Ok t
    → IsRunOf litmus (with_sites 1 litmus.body sites) t
run_begun litmus sites t (Err fault) begins h = absurd (let bad : ◌≡◌ {A = Result Trace CallFault} (Err fault) (Ok t) = h in cc)
run_begun litmus sites t (Ok setup) begins h =
    run_asked litmus setup t (with_sites 1 litmus.body sites) (run_body (sizes_of litmus) 1 (begun setup) (with_sites 1 litmus.body sites)) begins refl h

-- the run of a test that has events
pub run_of : (litmus : Test) (sites : List Site) (t : Trace) → HasEvents litmus sites t → IsRunOf litmus (with_sites 1 litmus.body sites) t
unfolding resolved
run_of litmus sites t h = run_begun litmus sites t (run_setup no_files litmus.setup) refl h

-- with no sites the body stays as it is
pub without_sites : (number : ℕ) (body : List Step) → with_sites number body [] ≡ body
without_sites number [] = refl
without_sites number (step ∷ steps) = ap (λ (rest : List Step). step ∷ rest) (without_sites (number + 1) steps)

-- the run of a test without sites
pub plain_run : (litmus : Test) (t : Trace) → HasEvents litmus [] t → IsRunOf litmus litmus.body t
plain_run litmus t h = subst (λ (body : List Step). IsRunOf litmus body t) (without_sites 1 litmus.body) (run_of litmus [] t h)

pub body_long : (litmus : Test) (t : Trace) → IsWithinLimits litmus → length t.events ≤ 128 → HasEvents litmus [] t → length litmus.body ≤ 256
body_long litmus t limits few h =
    let run = plain_run litmus t h in
    let long = run_long (sizes_of litmus) litmus.body 0 (begun run.setup) run.behind litmus.body refl run.ends (omega arith) in
    omega (arith, long, limits.few_body, few, ap (λ (u : Trace). length u.events) run.trace)
