-- The files behind the first calls of a body are what the slots hold behind them.
use Rattle.std.proofs.Common.{◌≡◌, ℕ, zero, suc, ◌+◌, ◌-◌, ◌<◌, ◌≤◌, inl, inr, true, List, [], ◌∷◌, length, fold, replicate, get_or, Option, Some, None, is_some, Ok, All, refl, sym, ◌∙◌, ap, subst, arith}
use Rattle.std.specs.Prelude.{slice_get}
use Rattle.std.proofs.lemmas.Bool.{cases_Bool, cases_lt}
use Rattle.std.proofs.lemmas.List.{get_or_append_left, get_or-append-add}
use Rattle.std.proofs.lemmas.List.Elements.{All-head, All-tail}
use Rattle.std.proofs.lemmas.List.Sums.{fold-append}
use Rattle.std.proofs.lemmas.Option.{slice_get-get_or}
use Rattle.litmus_syntax.specs.declared.call.Call.{Call}
use Rattle.litmus_syntax.specs.declared.call.Call.TheVariants.{Mkdir, Create, Write, Append, Truncate, Link, Unlink, Rename, Attr, Fsync, FsyncDir, Sync, Mark, Begin, Commit}
use Rattle.litmus_syntax.specs.declared.call.Step.{Step}
use Rattle.litmus_syntax.specs.CallKinds.{is_body_call}
use Rattle.fer_events.specs.declared.event.Event.{Event}
use Rattle.fer_events.specs.declared.tables.SlotName.{SlotName}
use Rattle.fer_events.specs.Paths.{entry_number}
use Rattle.fer_events.specs.States.{State}
use Rattle.call_events.specs.declared.files.Files.{Files}
use Rattle.call_events.specs.declared.files.Progress.{Progress}
use Rattle.call_events.specs.declared.making.Sizes.{Sizes}
use Rattle.call_events.specs.Refusals.{refusal}
use Rattle.call_events.specs.Changes.{with_entry, with_slot, with_names, with_attr, are_one, changed, files_after}
use Rattle.call_events.specs.Running.{stamp_of, events_next, after_setup_call, run_setup, after_call, body_refusal, run_body}
use Rattle.call_events.specs.Small.{IsSmall}
use Rattle.call_events.specs.Runs.{IsConsistent, Grows, IsRun}
use Rattle.call_events.proofs.Frames.{filled}
use Rattle.call_events.proofs.Keeping.{first_none, names_small, names_room, setup_small, setup_words}
use Rattle.call_events.proofs.Runs.{run_words, run_more}
use Rattle.call_events.proofs.StateCalls.{Frame, framed, Holds, call_mean}
use Rattle.call_events.proofs.Tracing.{calls_more}
use Rattle.call_events.proofs.Whole.{grows_same, grows_on, call_whole, call_grows, setup_whole}
use Rattle.sync_sites.specs.Passing.{held_after}
use Rattle.sync_sites.proofs.Lists.{slots_fold}
use Rattle.sync_sites.proofs.TestRuns.{accepted, same_ok}

-- what holds of the files of a setup
pub record IsSetUp (s : Files) : Type 0 where
  pub small : IsSmall s
  pub whole : IsConsistent s
  pub unmarked : s.words ≡ []

pub setup_kept : (s t : Files) (steps : List Step) → run_setup s steps ≡ Ok t → IsSetUp s → IsSetUp t
setup_kept s t [] h kept = subst IsSetUp (same_ok s t h) kept
setup_kept s t (step ∷ steps) h kept =
    let both = accepted (refusal s step.call) step.line (run_setup (after_setup_call s step.call) steps) t h in
    setup_kept (after_setup_call s step.call) t steps both.1 (record {
      small = setup_small s step.call kept.small both.0 kept.unmarked;
      whole = (setup_whole s step.call kept.small kept.unmarked kept.whole both.0).0;
      unmarked = setup_words s step.call ∙ kept.unmarked;
    })

-- what a run keeps
pub record IsKept (n : ℕ) (p q : Progress) : Type 0 where
  pub run : IsRun q
  pub whole : IsConsistent q.files
  pub grows : Grows p.files q.files
  pub calls : All (λ e. e.call < n) q.events

pub run_keeps : (sizes : Sizes) (n : ℕ) (p q : Progress) (steps : List Step) → run_body sizes n p steps ≡ Ok q → IsRun p → IsConsistent p.files → All (λ e. e.call < n) p.events → IsKept (n + length steps) p q
run_keeps sizes n p q [] h run whole calls =
    let e : n ≡ n + 0 = omega arith in
    subst (λ (r : Progress). IsKept (n + 0) p r) (same_ok p q h)
    (record { run = run; whole = whole; grows = grows_same p.files; calls = subst (λ (k : ℕ). All (λ e. e.call < k) p.events) e calls })
run_keeps sizes n p q (step ∷ steps) h run whole calls =
    let next : Progress = after_call sizes n p step.call in
    let both = accepted (body_refusal sizes n p step.call) step.line (run_body sizes (n + 1) next steps) q h in
    let keeps = call_whole p.files step.call run.small (run_words p run) whole (first_none _ _ both.0) in
    let rest = run_keeps sizes (n + 1) next q steps both.1 (run_more sizes n p step.call run both.0) keeps.0 (calls_more sizes n p step.call calls) in
    let e : n + 1 + length steps ≡ n + suc (length steps) = omega arith in
    record {
      run = rest.run;
      whole = rest.whole;
      grows = grows_on p.files next.files q.files keeps.1 rest.grows;
      calls = subst (λ (k : ℕ). All (λ e. e.call < k) q.events) e rest.calls;
    }

-- the slots alone, event after event, among as many as there are in the end
pub held_run : (count : ℕ) (start : List (Option ℕ)) (sizes : Sizes) (n : ℕ) (p q : Progress) (steps : List Step) → run_body sizes n p steps ≡ Ok q → IsRun p → IsConsistent p.files → All (λ e. e.call < n) p.events
    → length q.files.slots ≤ count → fold held_after start p.events ≡ filled count None p.files.held → fold held_after start q.events ≡ filled count None q.files.held
held_run count start sizes n p q [] h run whole calls room so_far = subst (λ (r : Progress). fold held_after start r.events ≡ filled count None r.files.held) (same_ok p q h) so_far
held_run count start sizes n p q (step ∷ steps) h run whole calls room so_far =
    let call : Call = step.call in
    let next : Progress = after_call sizes n p call in
    let more : List Event = events_next sizes n p call in
    let both = accepted (body_refusal sizes n p call) step.line (run_body sizes (n + 1) next steps) q h in
    let here : refusal p.files call ≡ None = first_none _ _ both.0 in
    let words : length p.files.words < 128 = run_words p run in
    let keeps = call_whole p.files call run.small words whole here in
    let run1 : IsRun next = run_more sizes n p call run both.0 in
    let calls1 = calls_more sizes n p call calls in
    let named : Files = with_names p.files call in
    let small : IsSmall named = names_small p.files call run.small here words in
    let rest = run_keeps sizes (n + 1) next q steps both.1 run1 keeps.0 calls1 in
    let grown : Grows named q.files = grows_on named next.files q.files (call_grows p.files call run.small words whole here) rest.grows in
    let f : Frame = record { slots = count; files = length named.contents; keys = length named.keys; words = length named.words } in
    let holds : Holds f named = record { held = omega (arith, small.held, grown.count, room); files = omega arith; keys = omega arith; words = omega arith } in
    let mean = call_mean f sizes (stamp_of n p) p.files call small holds (names_room p.files call here) in
    let one : fold held_after start next.events ≡ filled count None next.files.held =
    fold-append held_after start p.events more
    ∙ ap (λ (held : List (Option ℕ)). fold held_after held more) so_far
    ∙ sym (slots_fold (framed f p.files) more)
    ∙ ap (λ (s : State). s.slots) mean in
    held_run count start sizes (n + 1) next q steps both.1 run1 keeps.0 calls1 room one

-- no call of a body makes a directory
entry_dirs : (s : Files) (o : Option SlotName) → (with_entry s o).dirs ≡ s.dirs
entry_dirs s None = refl
entry_dirs s (Some e) = elim (cases_Bool (is_some (entry_number s.slots e))) [ inl old ↦ rw old refl | inr new ↦ rw new refl ]

attr_dirs : (s : Files) (file key : Option ℕ) (value : ℕ) → (with_attr s file key value).dirs ≡ s.dirs
attr_dirs s (Some file) (Some key) value = refl
attr_dirs s (Some file) None value = refl
attr_dirs s None key value = refl

rename_dirs : (s : Files) (from to : List (List ℕ)) → (changed s (Rename from to)).dirs ≡ s.dirs
rename_dirs s from to = elim (cases_Bool (are_one s from to)) [ inl one ↦ rw one refl | inr two ↦ rw two refl ]

call_dirs : (s : Files) (call : Call) → is_body_call call ≡ true → (files_after s call).dirs ≡ s.dirs
call_dirs s (Mkdir path) body = cc
call_dirs s (Create path) body = slot_dirs s path
  where
    slot_dirs : (s : Files) (path : List (List ℕ)) → (with_slot s path).dirs ≡ s.dirs
    slot_dirs s path = entry_dirs s _
call_dirs s (Write path at text) body = refl
call_dirs s (Append path text) body = refl
call_dirs s (Truncate path size) body = refl
call_dirs s (Link from to) body = entry_dirs s _
call_dirs s (Unlink path) body = refl
call_dirs s (Rename from to) body = rename_dirs (with_slot s to) from to ∙ entry_dirs s _
call_dirs s (Attr path key value) body = attr_dirs (with_names s (Attr path key value)) _ _ value
call_dirs s (Fsync path) body = refl
call_dirs s (FsyncDir path) body = refl
call_dirs s Sync body = refl
call_dirs s (Mark word) body = refl
call_dirs s Begin body = refl
call_dirs s Commit body = refl

pub run_dirs : (sizes : Sizes) (n : ℕ) (p q : Progress) (steps : List Step) → run_body sizes n p steps ≡ Ok q → All (λ step. is_body_call step.call ≡ true) steps → q.files.dirs ≡ p.files.dirs
run_dirs sizes n p q [] h body = ap (λ (r : Progress). r.files.dirs) (sym (same_ok p q h))
run_dirs sizes n p q (step ∷ steps) h body =
    let next : Progress = after_call sizes n p step.call in
    let both = accepted (body_refusal sizes n p step.call) step.line (run_body sizes (n + 1) next steps) q h in
    run_dirs sizes (n + 1) next q steps both.1 (All-tail (λ step. is_body_call step.call ≡ true) step steps body)
    ∙ call_dirs p.files step.call (All-head (λ step. is_body_call step.call ≡ true) step steps body)

-- what fills a list up is nothing
pub held_there : (count slot : ℕ) (held : List (Option ℕ)) (f : ℕ) → get_or (filled count None held) slot None ≡ Some f → slice_get held slot ≡ Some (Some f)
held_there count slot held f is = elim (cases_lt slot (length held)) [
  | inl there ↦ slice_get-get_or held slot None there ∙ ap (λ (o : Option ℕ). Some o) (sym (get_or_append_left held (replicate (count - length held) None) None slot there) ∙ is)
  | inr past ↦
      let place : slot ≡ length held + (slot - length held) = omega (arith, past) in
      let nothing : get_or (filled count None held) slot None ≡ None =
      ap (λ (k : ℕ). get_or (filled count None held) k None) place
      ∙ get_or-append-add held (replicate (count - length held) None) (slot - length held) None
      ∙ empty (count - length held) (slot - length held) in
      absurd (let bad : ◌≡◌ {A = Option ℕ} None (Some f) = sym nothing ∙ is in cc)
]
  where
    empty : (n k : ℕ) → get_or {A = Option ℕ} (replicate n None) k None ≡ None
    empty zero k = refl
    empty (suc n) zero = refl
    empty (suc n) (suc k) = empty n k
