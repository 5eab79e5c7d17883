-- A generated test has events: as many as it has calls.
use Rattle.std.proofs.Common.{◌≡◌, ℕ, suc, ◌+◌, ◌*◌, ◌/◌, ◌<◌, ◌≤◌, List, [], ◌∷◌, length, Option, None, Ok, inl, refl, sym, ◌∙◌, ap, subst, arith}
use Rattle.std.specs.Prelude.{codes}
use Rattle.std.proofs.lemmas.List.Elements.{All-nil}
use Rattle.litmus_syntax.specs.declared.call.Step.{Step}
use Rattle.litmus_syntax.specs.Test.{Test}
use Rattle.fer_events.specs.Tables.{Trace}
use Rattle.call_events.specs.declared.files.Files.{Files}
use Rattle.call_events.specs.declared.files.Progress.{Progress}
use Rattle.call_events.specs.declared.call_kind.CallKind.{CallKind}
use Rattle.call_events.specs.Found.{no_files}
use Rattle.call_events.specs.Running as running
use Rattle.call_events.specs.Running.{unless_refused, run_setup, run_body}
use Rattle.call_events.specs.Asking.{asked, question_refusal}
use Rattle.call_events.specs.Resolved.{trace_of, sizes_of, asked_of, body_of, resolved, HasEvents}
use Rattle.sync_sites.proofs.TestRuns.{without_sites, same_ok}
use Rattle.model_library.specs.Generated.{begun, words_of, generated_setup, generated_pred, generated}
use Rattle.model_library.proofs.Limited.{words_length}
use Rattle.generated_tests.proofs.Shapes.{files_with, IsEarlierName, IsBefore}
use Rattle.generated_tests.proofs.Bodies.{IsRunBefore, body_runs}
use Rattle.generated_tests.proofs.Questions.{AreMarked, question_fits}

-- the files that the setup leaves: two, of eight zeros each
abbrev pub set_up : Files
set_up = files_with [] [] (codes "00000000" ∷ codes "00000000" ∷ []) [] [] []

setup_runs : run_setup no_files generated_setup ≡ Ok set_up
setup_runs = refl

begins : IsRunBefore 1 (running.begun set_up)
begins = record {
  files = record {
    names = [];
    held = [];
    contents = codes "00000000" ∷ codes "00000000" ∷ [];
    attrs = [];
    keys = [];
    words = [];
    shape = refl;
    made = record {
      earlier = All-nil (IsEarlierName 1);
      few_names = omega arith;
      few_files = omega arith;
      one_key = inl refl;
      marked = λ j above below mark. absurd (omega (arith, above, below));
    };
  };
  events = refl;
}

-- the question about the marks of the calls before call i isn't refused
question_known : (i n : ℕ) (s : Files) → 8 * n < i → i ≤ 33 → IsBefore i s → question_refusal s (generated_pred n) ≡ None
question_known i n s all few before =
    let slots : length s.slots ≡ suc (suc (length before.names)) = ap (λ (t : Files). length t.slots) before.shape in
    let marked : AreMarked (8 * n) s.words = subst (λ (t : Files). AreMarked (8 * n) t.words) (sym before.shape) (λ j above below mark. before.made.marked j above (omega (arith, below, all)) mark) in
    question_fits s n marked (omega (arith, slots, before.made.few_names, all, few))

-- the answer for a test whose setup and body go through, and whose question isn't refused
answered : (litmus : Test) (setup : Files) (p : Progress) → run_setup no_files litmus.setup ≡ Ok setup → run_body (sizes_of litmus) 1 (running.begun setup) litmus.body ≡ Ok p
    → question_refusal p.files litmus.pred ≡ None → HasEvents litmus [] (trace_of setup (asked p.files litmus.pred) p.events)
unfolding resolved
answered litmus setup p starts runs asks =
    ap (body_of litmus []) starts
    ∙ ap (λ (body : List Step). asked_of litmus setup (run_body (sizes_of litmus) 1 (running.begun setup) body)) (without_sites 1 litmus.body)
    ∙ ap (asked_of litmus setup) runs
    ∙ ap (λ (o : Option CallKind). unless_refused o litmus.pred_line (Ok (trace_of setup (asked p.files litmus.pred) p.events))) asks

-- no call is refused, no question is, and each call is one event
pub test_accepted : (seed calls : ℕ) → calls ≤ 32 → (t : Trace) × HasEvents (generated seed calls) [] t × (length t.events ≡ calls)
unfolding generated
test_accepted seed calls few =
    let words : List ℕ = words_of (begun seed) calls in
    let many : length words ≡ calls = words_length (begun seed) calls in
    let run = body_runs (sizes_of (generated seed calls)) 1 words (running.begun set_up) (omega (arith, many, few)) begins in
    let p : Progress = run.0 in
    let asks = question_known (1 + length words) (calls / 8) p.files (omega (arith, many)) (omega (arith, many, few)) run.2.files in (
      trace_of set_up (asked p.files (generated_pred (calls / 8))) p.events,
      answered (generated seed calls) set_up p setup_runs run.1 asks,
      omega (arith, run.2.events, many),
    )

-- these are its only events
pub events_long : (seed calls : ℕ) (t : Trace) → calls ≤ 32 → HasEvents (generated seed calls) [] t → length t.events ≡ calls
events_long seed calls t few has =
    let found = test_accepted seed calls few in
    let same : t ≡ found.0 = same_ok t found.0 (sym has ∙ found.1) in
    ap (λ (u : Trace). length u.events) same ∙ found.2
