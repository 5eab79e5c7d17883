-- The files that calls leave are what their events leave.
use Rattle.std.proofs.Common.{◌≡◌, ℕ, ◌+◌, ◌-◌, ◌<◌, ◌≤◌, Bool, true, false, List, [], ◌∷◌, ◌++◌, length, map, fold, replicate, Option, Some, None, Result, Ok, Err, slice_get, refl, sym, ◌∙◌, ap, subst, arith, append_assoc, length-append}
use Rattle.std.specs.List.{range_with_len}
use Rattle.std.proofs.Math.Seq.{get_or-append_seam}
use Rattle.std.proofs.lemmas.List.{append-nil, length-replicate}
use Rattle.std.proofs.lemmas.List.Sums.{fold-append}
use Rattle.std.proofs.lemmas.Option.{slice_get-get_or}
use Rattle.litmus_syntax.specs.Test.{Test}
use Rattle.litmus_syntax.specs.Sites.{with_sites}
use Rattle.litmus_syntax.specs.declared.call.Call.{Call}
use Rattle.litmus_syntax.specs.declared.call.Step.{Step}
use Rattle.litmus_syntax.specs.declared.pred.Pred.{Pred}
use Rattle.litmus_syntax.specs.declared.site.Site.{Site}
use Rattle.fer_events.specs.declared.event.Event.{Event}
use Rattle.fer_events.specs.Orders.{numbers}
use Rattle.fer_events.specs.Tables.{Trace, file_count}
use Rattle.fer_events.specs.States.{State, padded, start_state, after_event, after_option, after_numbers}
use Rattle.fer_events.specs.Truth.{item_at, held_file}
use Rattle.call_events.specs.declared.files.Files.{Files}
use Rattle.call_events.specs.declared.files.Progress.{Progress}
use Rattle.call_events.specs.declared.making.Sizes.{Sizes}
use Rattle.call_events.specs.declared.call_kind.CallKind.{CallKind}
use Rattle.call_events.specs.declared.call_kind.CallFault.{CallFault}
use Rattle.call_events.specs.Found.{no_files, slot_of, file_of}
use Rattle.call_events.specs.Refusals.{refusal}
use Rattle.call_events.specs.Changes.{with_names}
use Rattle.call_events.specs.Running.{unless_refused, after_setup_call, run_setup, stamp_of, events_next, after_call, body_refusal, run_body, begun}
use Rattle.call_events.specs.Asking.{paths_asked, asked, question_refusal}
use Rattle.call_events.specs.Resolved.{trace_of, sizes_of, asked_of, body_of, resolved}
use Rattle.call_events.specs.Meaning.{Leaves, state_of}
use Rattle.call_events.specs.Small.{IsSmall}
use Rattle.call_events.specs.Runs.{IsConsistent, Grows, IsRun}
use Rattle.call_events.proofs.Keeping.{first_none, names_small, names_room, setup_small, setup_words, nothing_small}
use Rattle.call_events.proofs.Runs.{run_words, run_more, run_begins}
use Rattle.call_events.proofs.Whole.{grows_same, grows_on, call_whole, call_grows, setup_whole, nothing_whole}
use Rattle.call_events.proofs.Tracing.{SlotsAlone, paths_keep}
use Rattle.call_events.proofs.Frames.{filled}
use Rattle.call_events.proofs.Paths.{paths_ask, all_held}
use Rattle.std.specs.Prelude.{option_and_then}
use Rattle.call_events.proofs.StatePieces.{all_after}
use Rattle.call_events.proofs.StateAttrs.{values_of}
use Rattle.call_events.proofs.StateCalls.{Frame, framed, seen_in, Holds, call_mean}

not_refused : {X : Type 0} (o : Option CallKind) (line : ℕ) (next : Result X CallFault) (x : X) → unless_refused o line next ≡ Ok x → (o ≡ None) × (next ≡ Ok x)
not_refused None line next x h = (refl, h)
not_refused (Some kind) line next x h = cc

same_left : {X : Type 0} (x y : X) → ◌≡◌ {A = Result X CallFault} (Ok x) (Ok y) → x ≡ y
same_left x y h = cc

-- what holds of the files of a setup
record IsSetUp (s : Files) : Type 0 where
  small : IsSmall s
  whole : IsConsistent s
  unmarked : s.words ≡ []

setup_kept : (s t : Files) (steps : List Step) → run_setup s steps ≡ Ok t → IsSetUp s → IsSetUp t
setup_kept s t [] h kept = subst IsSetUp (same_left s t h) kept
setup_kept s t (step ∷ steps) h kept =
    let both = not_refused (refusal s step.call) step.line (run_setup (after_setup_call s step.call) steps) t h in
    setup_kept (after_setup_call s step.call) t steps both.1 (record {
      small = setup_small s step.call kept.small both.0 kept.unmarked;
      whole = (setup_whole s step.call kept.small kept.unmarked kept.whole both.0).0;
      unmarked = setup_words s step.call ∙ kept.unmarked;
    })

run_kept : (sizes : Sizes) (number : ℕ) (p q : Progress) (steps : List Step) → run_body sizes number p steps ≡ Ok q → IsRun p → IsConsistent p.files → Grows p.files q.files
run_kept sizes number p q [] h run whole = subst (λ (r : Progress). Grows p.files r.files) (same_left p q h) (grows_same p.files)
run_kept sizes number p q (step ∷ steps) h run whole =
    let next : Progress = after_call sizes number p step.call in
    let both = not_refused (body_refusal sizes number p step.call) step.line (run_body sizes (number + 1) next steps) q h in
    let here : refusal p.files step.call ≡ None = first_none _ _ both.0 in
    let keeps = call_whole p.files step.call run.small (run_words p run) whole here in
    grows_on p.files next.files q.files keeps.1 (run_kept sizes (number + 1) next q steps both.1 (run_more sizes number p step.call run both.0) keeps.0)

-- the frame is as large as the files
record IsLarge (f : Frame) (s : Files) : Type 0 where
  slots : length s.slots ≤ f.slots
  files : length s.contents ≤ f.files
  keys : length s.keys ≤ f.keys
  words : length s.words ≤ f.words

holds_before : (f : Frame) (s t : Files) → IsSmall s → Grows s t → IsLarge f t → Holds f s
holds_before f s t small grown large = record {
  held = omega (arith, small.held, grown.count, large.slots);
  files = omega (arith, grown.files, large.files);
  keys = omega (arith, grown.keys, large.keys);
  words = omega (arith, grown.words, large.words);
}

run_mean : (f : Frame) (start : State) (sizes : Sizes) (number : ℕ) (p q : Progress) (steps : List Step) → run_body sizes number p steps ≡ Ok q → IsRun p → IsConsistent p.files → IsLarge f q.files
    → all_after start p.events ≡ framed f p.files → all_after start q.events ≡ framed f q.files
run_mean f start sizes number p q [] h run whole large so_far = subst (λ (r : Progress). all_after start r.events ≡ framed f r.files) (same_left p q h) so_far
run_mean f start sizes number p q (step ∷ steps) h run whole large so_far =
    let call : Call = step.call in
    let next : Progress = after_call sizes number p call in
    let more : List Event = events_next sizes number p call in
    let both = not_refused (body_refusal sizes number p call) step.line (run_body sizes (number + 1) next steps) q h in
    let here : refusal p.files call ≡ None = first_none _ _ both.0 in
    let words : length p.files.words < 128 = run_words p run in
    let keeps = call_whole p.files call run.small words whole here in
    let run1 : IsRun next = run_more sizes number p call run both.0 in
    let named : Files = with_names p.files call in
    let small : IsSmall named = names_small p.files call run.small here words in
    let grown : Grows named q.files = grows_on named next.files q.files (call_grows p.files call run.small words whole here) (run_kept sizes (number + 1) next q steps both.1 run1 keeps.0) in
    let one : all_after start next.events ≡ framed f next.files =
    fold-append after_event start p.events more
    ∙ ap (λ (u : State). all_after u more) so_far
    ∙ call_mean f sizes (stamp_of number p) p.files call small (holds_before f named q.files small grown large) (names_room p.files call here) in
    run_mean f start sizes (number + 1) next q steps both.1 run1 keeps.0 large one

-- events by their numbers
by_number : (front back : List Event) (s : State) → fold (λ u a. after_option u (slice_get (front ++ back) (a - 1))) s (range_with_len (length front + 1) (length back)) ≡ all_after s back
by_number front [] s = refl
by_number front (e ∷ back) s =
    let all : List Event = front ++ e ∷ back in
    let place : length front + 1 - 1 ≡ length front = omega arith in
    let there : length front < length all = omega (arith, length-append front (e ∷ back)) in
    let found : slice_get all (length front + 1 - 1) ≡ Some e = ap (slice_get all) place ∙ slice_get-get_or all (length front) e there ∙ ap Some (get_or-append_seam front e back e) in
    let next : length front + 1 + 1 ≡ length (front ++ e ∷ []) + 1 = omega (arith, length-append front (e ∷ [])) in
    let step : List Event → State → ℕ → State = λ es u a. after_option u (slice_get es (a - 1)) in
    ap (λ (o : Option Event). fold (step all) (after_option s o) (range_with_len (length front + 1 + 1) (length back))) found
    ∙ ap (λ (n : ℕ). fold (step all) (after_event s e) (range_with_len n (length back))) next
    ∙ ap (λ (es : List Event). fold (step es) (after_event s e) (range_with_len (length (front ++ e ∷ []) + 1) (length back))) (sym (append_assoc front (e ∷ []) back))
    ∙ by_number (front ++ e ∷ []) back (after_event s e)

run_whole : (sizes : Sizes) (number : ℕ) (p q : Progress) (steps : List Step) → run_body sizes number p steps ≡ Ok q → IsRun p → IsConsistent p.files → IsConsistent q.files
run_whole sizes number p q [] h run whole = subst (λ (r : Progress). IsConsistent r.files) (same_left p q h) whole
run_whole sizes number p q (step ∷ steps) h run whole =
    let next : Progress = after_call sizes number p step.call in
    let both = not_refused (body_refusal sizes number p step.call) step.line (run_body sizes (number + 1) next steps) q h in
    let keeps = call_whole p.files step.call run.small (run_words p run) whole (first_none _ _ both.0) in
    run_whole sizes (number + 1) next q steps both.1 (run_more sizes number p step.call run both.0) keeps.0

run_is : (sizes : Sizes) (number : ℕ) (p q : Progress) (steps : List Step) → run_body sizes number p steps ≡ Ok q → IsRun p → IsRun q
run_is sizes number p q [] h run = subst IsRun (same_left p q h) run
run_is sizes number p q (step ∷ steps) h run =
    let next : Progress = after_call sizes number p step.call in
    let both = not_refused (body_refusal sizes number p step.call) step.line (run_body sizes (number + 1) next steps) q h in
    run_is sizes (number + 1) next q steps both.1 (run_more sizes number p step.call run both.0)

frame_of : Files → Frame
frame_of a = record { slots = length a.slots; files = length a.contents; keys = length a.keys; words = length a.words }

-- the state before the body is that of the files of the setup
start_mean : (setup a : Files) (events : List Event) → setup.words ≡ [] → file_count (trace_of setup a events) ≡ length a.contents → start_state (trace_of setup a events) ≡ framed (frame_of a) setup
unfolding frame_of
start_mean setup a events unmarked count =
    let f : Frame = frame_of a in
    let t : Trace = trace_of setup a events in
    let unseen : f.words ≡ f.words - 0 = omega arith in
    let none : length setup.words ≡ 0 = ap (λ (w : List (List ℕ)). length w) unmarked in
    ap (λ (n : ℕ). record (start_state t) { attrs = values_of n f.keys setup.attrs }) count
    ∙ ap (λ (n : ℕ). record (framed f setup) { seen = replicate n false }) unseen
    ∙ ap (λ (n : ℕ). record (framed f setup) { seen = seen_in f n }) (sym none)

-- the files that the body left, among all names
end_mean : (setup a s : Files) (events : List Event) → SlotsAlone s a → file_count (trace_of setup a events) ≡ length a.contents → framed (frame_of a) s ≡ state_of (trace_of setup a events) s
unfolding frame_of
end_mean setup a s events alone count =
    let f : Frame = frame_of a in
    let t : Trace = trace_of setup a events in
    let no_file : length a.contents - length s.contents ≡ 0 = omega (arith, ap (λ (c : List (List ℕ)). length c) alone.contents) in
    let contents : filled f.files [] s.contents ≡ s.contents = ap (λ (n : ℕ). s.contents ++ replicate n []) no_file ∙ append-nil s.contents in
    let words : length s.words ≡ length a.words = ap (λ (w : List (List ℕ)). length w) (sym alone.words) in
    let no_word : length a.words - length a.words ≡ 0 = omega arith in
    let seen : seen_in f (length s.words) ≡ replicate (length a.words) true =
    ap (seen_in f) words ∙ ap (λ (n : ℕ). replicate (length a.words) true ++ replicate n false) no_word ∙ append-nil (replicate (length a.words) true) in
    ap (λ (cs : List (List ℕ)). record (framed f s) { sizes = map (λ content. length content) cs; bytes = map padded cs }) contents
    ∙ ap (λ (n : ℕ). record (framed f s) { sizes = map (λ content. length content) s.contents; bytes = map padded s.contents; attrs = values_of n f.keys s.attrs }) (sym count)
    ∙ ap (λ (bs : List Bool). record (state_of t s) { seen = bs }) seen

large_enough : (s a : Files) → Grows s a → IsLarge (frame_of a) s
unfolding frame_of
large_enough s a grown = record { slots = grown.count; files = grown.files; keys = grown.keys; words = grown.words }

-- of a body that was run
body_means : (setup : Files) (sizes : Sizes) (steps : List Step) (q : Progress) (pred : Pred) → IsSetUp setup → run_body sizes 1 (begun setup) steps ≡ Ok q
    → (let t = trace_of setup (asked q.files pred) q.events in after_numbers t.events (start_state t) (numbers (length t.events)) ≡ state_of t q.files)
body_means setup sizes steps q pred kept ran =
    let a : Files = asked q.files pred in
    let t : Trace = trace_of setup a q.events in
    let begins : IsRun (begun setup) = run_begins setup kept.small kept.unmarked in
    let grown : Grows setup q.files = run_kept sizes 1 (begun setup) q steps ran begins kept.whole in
    let asks = paths_keep q.files (paths_asked pred) (run_whole sizes 1 (begun setup) q steps ran begins kept.whole) in
    let alone : SlotsAlone q.files a = asks.1 in
    let files : length a.contents ≡ length q.files.contents = ap (λ (c : List (List ℕ)). length c) alone.contents in
    let count : file_count t ≡ length a.contents =
    omega (arith, length-append {A = List ℕ} setup.contents (replicate (length a.contents - length setup.contents) []), length-replicate {A = List ℕ} (length a.contents - length setup.contents) [], grown.files, files) in
    let large : IsLarge (frame_of a) q.files = large_enough q.files a asks.0.1 in
    let start : start_state t ≡ framed (frame_of a) setup = start_mean setup a q.events kept.unmarked count in
    by_number [] q.events (start_state t)
    ∙ run_mean (frame_of a) (start_state t) sizes 1 (begun setup) q steps ran begins kept.whole large start
    ∙ end_mean setup a q.files q.events alone count

-- what a path holds in the state behind that body
body_holds : (setup : Files) (sizes : Sizes) (steps : List Step) (q : Progress) (pred : Pred) (path : List (List ℕ)) → IsSetUp setup → run_body sizes 1 (begun setup) steps ≡ Ok q
    → (let t = trace_of setup (asked q.files pred) q.events in held_file t (state_of t q.files) path ≡ file_of q.files path)
body_holds setup sizes steps q pred path kept ran =
    let s : Files = q.files in
    let a : Files = asked s pred in
    let begins : IsRun (begun setup) = run_begins setup kept.small kept.unmarked in
    let long : length s.held ≡ length s.slots = (run_is sizes 1 (begun setup) q steps ran begins).small.held in
    let holds : List (Option ℕ) → Option ℕ → Option ℕ = λ held slot. option_and_then (λ h. h) (item_at held slot) in
    ap (λ (held : List (Option ℕ)). holds held (slot_of a path)) (all_held s (paths_asked pred) long)
    ∙ (paths_ask (length a.slots) s (paths_asked pred) long).files path

-- the files that the calls of a test leave are what its events leave
pub one_meaning : (litmus : Test) (sites : List Site) (t : Trace) (files : Files) → resolved litmus sites ≡ Ok t → Leaves litmus sites files
    → after_numbers t.events (start_state t) (numbers (length t.events)) ≡ state_of t files
unfolding resolved
one_meaning litmus sites t files has left =
    let setup : Files = left.setup in
    let q : Progress = left.behind in
    let kept : IsSetUp setup = setup_kept no_files setup litmus.setup left.begins (record { small = nothing_small; whole = nothing_whole; unmarked = refl }) in
    let asks : asked_of litmus setup (Ok q) ≡ Ok t = ap (asked_of litmus setup) (sym left.ends) ∙ ap (body_of litmus sites) (sym left.begins) ∙ has in
    let both = not_refused (question_refusal q.files litmus.pred) litmus.pred_line (Ok (trace_of setup (asked q.files litmus.pred) q.events)) t asks in
    let same : trace_of setup (asked q.files litmus.pred) q.events ≡ t = same_left (trace_of setup (asked q.files litmus.pred) q.events) t both.1 in
    let means = body_means setup (sizes_of litmus) (with_sites 1 litmus.body sites) q litmus.pred kept left.ends in
    let P : Trace → Type 0 = λ u. after_numbers u.events (start_state u) (numbers (length u.events)) ≡ state_of u q.files in
    subst P same means ∙ ap (state_of t) left.left

-- a test that has events leaves files
pub files_left : (litmus : Test) (sites : List Site) (t : Trace) → resolved litmus sites ≡ Ok t → (files : Files) × Leaves litmus sites files
unfolding resolved
files_left litmus sites t has = of_setup (run_setup no_files litmus.setup) refl has
  where
    of_body : (setup : Files) → run_setup no_files litmus.setup ≡ Ok setup → (r : Result Progress CallFault) → run_body (sizes_of litmus) 1 (begun setup) (with_sites 1 litmus.body sites) ≡ r → asked_of litmus setup r ≡ Ok t
        → (files : Files) × Leaves litmus sites files
    of_body setup begins (Ok q) ends h = (q.files, record { setup = setup; begins = begins; behind = q; ends = ends; left = refl })
    of_body setup begins (Err fault) ends h = cc

    of_setup : (r : Result Files CallFault) → run_setup no_files litmus.setup ≡ r → body_of litmus sites r ≡ Ok t → (files : Files) × Leaves litmus sites files
    of_setup (Ok setup) begins h = of_body setup begins (run_body (sizes_of litmus) 1 (begun setup) (with_sites 1 litmus.body sites)) refl h
    of_setup (Err fault) begins h = cc

-- what a path holds in the state is what it names among the files
pub paths_held : (litmus : Test) (sites : List Site) (t : Trace) (files : Files) (path : List (List ℕ)) → resolved litmus sites ≡ Ok t → Leaves litmus sites files
    → held_file t (state_of t files) path ≡ file_of files path
unfolding resolved
paths_held litmus sites t files path has left =
    let setup : Files = left.setup in
    let q : Progress = left.behind in
    let kept : IsSetUp setup = setup_kept no_files setup litmus.setup left.begins (record { small = nothing_small; whole = nothing_whole; unmarked = refl }) in
    let asks : asked_of litmus setup (Ok q) ≡ Ok t = ap (asked_of litmus setup) (sym left.ends) ∙ ap (body_of litmus sites) (sym left.begins) ∙ has in
    let both = not_refused (question_refusal q.files litmus.pred) litmus.pred_line (Ok (trace_of setup (asked q.files litmus.pred) q.events)) t asks in
    let same : trace_of setup (asked q.files litmus.pred) q.events ≡ t = same_left (trace_of setup (asked q.files litmus.pred) q.events) t both.1 in
    let holds = body_holds setup (sizes_of litmus) (with_sites 1 litmus.body sites) q litmus.pred path kept left.ends in
    let P : Trace → Type 0 = λ u. held_file u (state_of u q.files) path ≡ file_of q.files path in
    let Q : Files → Type 0 = λ s. held_file t (state_of t s) path ≡ file_of s path in
    subst Q left.left (subst P same holds)
