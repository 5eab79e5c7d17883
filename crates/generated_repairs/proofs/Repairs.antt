-- With a sync behind each call no crash answers the question of a generated test.
use Rattle.std.proofs.Common.{◌≡◌, inl, inr, ℕ, suc, ◌/◌, ◌≤◌, Bool, true, false, if◌then◌else◌, List, [], ◌∷◌, ◌++◌, length, map, take, Some, Ok, slice_get, refl, sym, ◌∙◌, ap, subst, arith}
use Rattle.std.specs.List.{flat_map}
use Rattle.litmus_syntax.specs.declared.call.Step.{Step}
use Rattle.litmus_syntax.specs.declared.site.Site.{Site}
use Rattle.litmus_syntax.specs.declared.site.SiteKind.TheVariants.{Sync}
use Rattle.litmus_syntax.specs.Sites.{with_sites}
use Rattle.litmus_syntax.specs.Test.{Test}
use Rattle.litmus_syntax.specs.Transactions.{calls_of, is_open}
use Rattle.fer_events.specs.declared.event.Event.{Event}
use Rattle.fer_events.specs.declared.event.Crash.{Crash}
use Rattle.fer_events.specs.Orders.{numbers}
use Rattle.fer_events.specs.States.{after_crash}
use Rattle.fer_events.specs.Tables.{Trace}
use Rattle.fer_events.specs.Truth.{truth}
use Rattle.fer_events.specs.Witness.{IsWitness}
use Rattle.call_events.specs.declared.files.Files.{Files}
use Rattle.call_events.specs.Asking.{paths_asked, asked}
use Rattle.call_events.specs.Resolved.{trace_of, sizes_of, HasEvents}
use Rattle.call_events.specs.Running.{run_body, begun}
use Rattle.model_reader.specs.declared.model.Model.{Model}
use Rattle.model_library.specs.Generated as made
use Rattle.model_library.specs.Generated.{words_of, generated_calls, generated_pred, generated}
use Rattle.sync_sites.specs.SiteLists.{sites_behind, sites_of}
use Rattle.sync_sites.proofs.TestRuns.{IsRunOf, run_of}
use Rattle.sync_parts.specs.Reaching.{IsReachable}
use Rattle.generated_repairs.specs.Keeping.{KeepsSyncs}
use Rattle.generated_repairs.proofs.Questions.{some_lost}
use Rattle.generated_repairs.proofs.Doubling.{sync_site, synced, with_all_sites, double_is, halves, length-synced, call_at, sync_at}
use Rattle.generated_repairs.proofs.Bodies.{call_has, change_has, never_open, length-generated_calls, length-words_of, call_at_place}
use Rattle.generated_repairs.proofs.Growing.{asks_extend}
use Rattle.generated_repairs.proofs.Calls.{IsSingle, create_single, link_single, mark_single, sync_single, truncate_single, attr_single, write_single}
use Rattle.generated_repairs.proofs.Walking.{AreSingle, AreDone, walk, few_events, done_all, length-done}
use Rattle.generated_repairs.proofs.Lost.{KeepsAround, never_lost}

-- each generated call has one event
generated_single : (i word : ℕ) → IsSingle (made.generated_call i word)
generated_single i word = call_has IsSingle i word (mark_single (made.numbered 109 i)) (create_single (made.numbered 110 i)) (change_has IsSingle i word write_single attr_single truncate_single link_single)

-- each call of a generated body with its syncs has one event
all_single : (words : List ℕ) → AreSingle (synced (generated_calls 1 words))
all_single words j step at =
    let half = halves j in
    elim half.1 [
      | inl even ↦
          let here : slice_get (generated_calls 1 words) half.0 ≡ Some step = sym (call_at (generated_calls 1 words) half.0) ∙ ap (slice_get (synced (generated_calls 1 words))) (sym even) ∙ at in
          let own = call_at_place words half.0 step here in
          subst IsSingle (sym own.1) (generated_single (suc half.0) own.0)
      | inr odd ↦ subst IsSingle (sym (sync_at (generated_calls 1 words) half.0 step (ap (slice_get (synced (generated_calls 1 words))) (sym odd) ∙ at))) sync_single
    ]

-- a site stands behind each call of a body in which no transaction is open
each_site : (body : List Step) (t : Trace) (ks : List ℕ) → ((k : ℕ) → is_open (take k (calls_of body)) ≡ false) → flat_map (sites_behind Sync body t) ks ≡ map sync_site ks
each_site body t [] closed = refl
each_site body t (k ∷ ks) closed =
    ap (λ (b : Bool). (if b then [] else sync_site k ∷ []) ++ flat_map (sites_behind Sync body t) ks) (closed k)
    ∙ ap (λ (sites : List Site). sync_site k ∷ sites) (each_site body t ks closed)

-- so a sync stands behind each call
all_synced : (words : List ℕ) (t : Trace) → let body : List Step = generated_calls 1 words in with_sites 1 body (sites_of Sync body t) ≡ synced body
all_synced words t =
    let body : List Step = generated_calls 1 words in
    ap (with_sites 1 body) (each_site body t (numbers (length body)) (never_open 1 words))
    ∙ with_all_sites (length body) 1 body (omega arith) (omega arith)

-- a test whose body and question are generated
module _ (litmus : Test) (words : List ℕ) (body_is : litmus.body ≡ generated_calls 1 words) (pred_is : litmus.pred ≡ generated_pred (length words / 8)) (want_is : litmus.want ≡ true) where
  -- the run of its body with a sync behind each call: which files and events it leaves
  record SyncedRun (u : Trace) : Type 0 where
    setup : Files
    files : Files
    events : List Event
    each : AreDone files (synced (generated_calls 1 words)) events
    few : length events ≤ 128
    trace : trace_of setup files events ≡ u

  synced_run : (t u : Trace) → HasEvents litmus (sites_of Sync litmus.body t) u → SyncedRun u
  synced_run t u h =
      let run : IsRunOf litmus (with_sites 1 litmus.body (sites_of Sync litmus.body t)) u = run_of litmus (sites_of Sync litmus.body t) u h in
      let body : List Step = synced (generated_calls 1 words) in
      let is : with_sites 1 litmus.body (sites_of Sync litmus.body t) ≡ body = ap (λ (b : List Step). with_sites 1 b (sites_of Sync b t)) body_is ∙ all_synced words t in
      let ends : run_body (sizes_of litmus) 1 (begun run.setup) body ≡ Ok run.behind = ap (run_body (sizes_of litmus) 1 (begun run.setup)) (sym is) ∙ run.ends in
      let walked = walk (sizes_of litmus) 1 (begun run.setup) run.behind body (all_single words) ends in
      let each : AreDone run.behind.files body run.behind.events = subst (λ (l : List Event). AreDone run.behind.files body l) (sym walked.events) walked.done in
      record {
        setup = run.setup;
        files = asked run.behind.files litmus.pred;
        events = run.behind.events;
        each = done_all run.behind.files (asked run.behind.files litmus.pred) body run.behind.events (asks_extend run.behind.files (paths_asked litmus.pred)) each;
        few = few_events (sizes_of litmus) 1 (begun run.setup) run.behind body (omega arith) ends;
        trace = run.trace;
      }

  -- no crash of such a run answers the question
  unanswered : (setup files : Files) (events : List Event) (crash : Crash) → AreDone files (synced (generated_calls 1 words)) events → length events ≤ 128
      → IsWitness (trace_of setup files events) [] litmus.pred litmus.want crash → KeepsAround events crash.order → ⊥
  unanswered setup files events crash each few answers keeps =
      let u : Trace = trace_of setup files events in
      let body : List Step = generated_calls 1 words in
      let many : length words ≤ 64 = omega (arith, few, length-done files (synced body) events each, length-synced body, double_is (length body), length-generated_calls 1 words) in
      let asks : truth u (after_crash u crash) (generated_pred (length words / 8)) ≡ true = ap (truth u (after_crash u crash)) (sym pred_is) ∙ answers.answers ∙ want_is in
      let lost = some_lost u (after_crash u crash) (length words / 8) asks in
      never_lost setup files events words (omega (arith, many)) each crash answers.crashes.valid.permutes keeps lost.0 lost.1 (omega (arith, lost.2)) lost.3

  -- nor is one reached under a model that keeps what stands around a sync
  none_reached : (model : Model) (t : Trace) → KeepsSyncs model → IsReachable litmus model (sites_of Sync litmus.body t) → ⊥
  none_reached model t keeps (crash, reaches) =
      let run = synced_run t reaches.trace reaches.resolved in
      let Answers : Trace → Type 0 = λ u. IsWitness u [] litmus.pred litmus.want crash in
      let around : KeepsAround reaches.trace.events crash.order = λ a b e f before first second one. reaches.keeps a b (keeps reaches.trace.events a b e f before first second one) in
      unanswered run.setup run.files run.events crash run.each run.few
      (subst Answers (sym run.trace) reaches.answers)
      (subst (λ (u : Trace). KeepsAround u.events crash.order) (sym run.trace) around)

-- a sync behind each call repairs each generated test
pub repaired : (seed calls : ℕ) (model : Model) (t : Trace) → KeepsSyncs model → HasEvents (generated seed calls) [] t → IsReachable (generated seed calls) model (sites_of Sync (generated seed calls).body t) → ⊥
unfolding generated
repaired seed calls model t keeps plain reached =
    let words : List ℕ = words_of (made.begun seed) calls in
    let pred : generated_pred (calls / 8) ≡ generated_pred (length words / 8) = ap (λ (n : ℕ). generated_pred (n / 8)) (sym (length-words_of (made.begun seed) calls)) in
    none_reached (generated seed calls) words refl pred refl model t keeps reached
