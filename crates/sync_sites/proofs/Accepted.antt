-- A test with its sites has events: no site's call is refused.
use Rattle.std.proofs.Common.{◌≡◌, ℕ, ◌+◌, ◌<◌, ◌≤◌, inl, inr, Bool, true, false, ◌&&◌, List, [], ◌∷◌, ◌++◌, length, take, drop, fold, get_or, Option, Some, None, IfSome, is_none, Ok, All, refl, sym, ◌∙◌, ap, arith, take-append-drop, length-take-le}
use Rattle.std.specs.Prelude.{nat_le, filter, slice_get, option_and_then}
use Rattle.std.specs.List.{range_with_len}
use Rattle.std.proofs.lemmas.Bool.{cases_Bool}
use Rattle.std.proofs.lemmas.Bool.Decides.{nat_tests}
use Rattle.std.proofs.lemmas.List.{append-nil}
use Rattle.std.proofs.lemmas.List.Elements.{All-nil, All-head, All-tail, All-weaker, All-contains, All-drop, filter-append}
use Rattle.std.proofs.lemmas.List.Sums.{length-filter, count_by-le-length}
use Rattle.std.proofs.lemmas.Option.{slice_get_within, get_or_from_slice_get}
use Rattle.litmus_syntax.specs.declared.call.Call.TheVariants.{FsyncDir}
use Rattle.litmus_syntax.specs.declared.call.Step.{Step}
use Rattle.litmus_syntax.specs.declared.site.Site.{Site}
use Rattle.litmus_syntax.specs.declared.site.SiteKind.{SiteKind}
use Rattle.litmus_syntax.specs.CallKinds.{is_sync, is_body_call}
use Rattle.litmus_syntax.specs.Forms.{is_formed_call}
use Rattle.litmus_syntax.specs.Limits.{IsWithinLimits}
use Rattle.litmus_syntax.specs.Test.{Test}
use Rattle.fer_events.specs.declared.event.Event.{Event}
use Rattle.fer_events.specs.declared.tables.SlotName.{SlotName}
use Rattle.fer_events.specs.Paths.{same_path, slot_path}
use Rattle.fer_events.specs.Tables.{Trace}
use Rattle.fer_events.specs.Truth.{item_at}
use Rattle.fer_events.proofs.GeneralPlaces.{fresh}
use Rattle.call_events.specs.declared.files.Files.{Files}
use Rattle.call_events.specs.declared.files.Progress.{Progress}
use Rattle.call_events.specs.declared.making.Sizes.{Sizes}
use Rattle.call_events.specs.declared.call_kind.CallKind.{CallKind}
use Rattle.call_events.specs.declared.call_kind.CallKind.TheVariants.{NoSuchFile}
use Rattle.call_events.specs.Found.{no_files, is_dir, slot_of, file_of}
use Rattle.call_events.specs.Refusals.{kind_if, refusal}
use Rattle.call_events.specs.Running.{unless_refused, run_body, begun}
use Rattle.call_events.specs.Asking.{paths_asked, asked, question_refusal}
use Rattle.call_events.specs.Resolved.{trace_of, sizes_of, asked_of, body_of, resolved, HasEvents}
use Rattle.call_events.specs.Runs.{Grows, IsRun}
use Rattle.call_events.proofs.Frames.{filled}
use Rattle.call_events.proofs.Keeping.{nothing_small}
use Rattle.call_events.proofs.Runs.{run_begins}
use Rattle.call_events.proofs.Tracing.{paths_keep}
use Rattle.call_events.proofs.Whole.{nothing_whole, grows_on}
use Rattle.sync_sites.specs.Passing.{held_after}
use Rattle.sync_sites.specs.SiteLists.{events_upto, held_behind, is_number, is_lesser, lesser, least, names_of, name_texts, syncs_behind, sites_of}
use Rattle.sync_sites.proofs.TestRuns.{IsRunOf, plain_run}
use Rattle.sync_sites.proofs.Placed.{sites_keep, syncs_keep}
use Rattle.sync_sites.proofs.Steps.{held_is}
use Rattle.sync_sites.proofs.TooMany.{item_there, some_same}
use Rattle.sync_sites.proofs.Beside.{IsBeside, AreFound, run_on, run_adds, walk}
use Rattle.sync_sites.proofs.Behind.{IsSetUp, setup_kept, run_keeps, held_run, run_dirs, held_there}
use Rattle.sync_sites.proofs.Finding.{all_pass, none_pass, those_that_pass, own_slot, path_itself}

-- what holds of each slot holds of the least
least_passes : (texts : List (List ℕ)) (P : ℕ → Type 0) (so_far : Option ℕ) (slots : List ℕ) → All P slots → IfSome so_far P → IfSome (fold (lesser texts) so_far slots) P
least_passes texts P so_far [] all passes = passes
least_passes texts P so_far (slot ∷ slots) all passes =
    least_passes texts P (lesser texts so_far slot) slots (All-tail P slot slots all) (one so_far (All-head P slot slots all) passes)
  where
    one : (o : Option ℕ) → P slot → IfSome o P → IfSome (lesser texts o slot) P
    one None here before = here
    one (Some other) here before = elim (cases_Bool (is_lesser texts slot other)) [ inl less ↦ rw less here | inr more ↦ rw more before ]

is_some_number : (o : Option ℕ) (n : ℕ) → is_number o n ≡ true → (f : ℕ) × (o ≡ Some f)
is_some_number None n h = cc
is_some_number (Some f) n h = (f, refl)

-- the slot of a file's least path holds a file
least_holds : (texts : List (List ℕ)) (held : List (Option ℕ)) (file slot : ℕ) → least texts (names_of held file) ≡ Some slot → (f : ℕ) × (get_or held slot None ≡ Some f)
least_holds texts held file slot is =
    let p : ℕ → Bool = λ s. is_number (get_or held s None) file in
    let P : ℕ → Type 0 = λ s. p s ≡ true in
    let all : IfSome (least texts (names_of held file)) P = least_passes texts P None (names_of held file) (those_that_pass p (range_with_len 0 (length held))) tt in
    is_some_number (get_or held slot None) file (rw is at all)

first_of_both : (a b : Bool) → (a && b) ≡ true → a ≡ true
first_of_both true b h = refl
first_of_both false b h = h

body_calls : (litmus : Test) → IsWithinLimits litmus → All (λ step. is_body_call step.call ≡ true) litmus.body
body_calls litmus limits =
    All-weaker (λ (step : Step). (is_body_call step.call && is_formed_call step.call) ≡ true) (λ (step : Step). is_body_call step.call ≡ true)
    (λ step h. first_of_both (is_body_call step.call) (is_formed_call step.call) h) litmus.body limits.body

-- each sync behind the first k calls finds what it waits for
found_behind : (litmus : Test) (t : Trace) (kind : SiteKind) (k : ℕ) (p : Progress) → IsWithinLimits litmus → (run : IsRunOf litmus litmus.body t) → k ≤ length litmus.body
    → run_body (sizes_of litmus) 1 (begun run.setup) (take k litmus.body) ≡ Ok p → All (λ c. refusal p.files c ≡ None) (syncs_behind kind k t)
found_behind litmus t kind k p limits run upto ran =
    let sizes : Sizes = sizes_of litmus in
    let body : List Step = litmus.body in
    let setup : Files = run.setup in
    let q : Progress = run.behind in
    let a : Files = asked q.files litmus.pred in
    let front : List Step = take k body in
    let back : List Step = drop k body in
    let n : ℕ = 1 + length front in
    let count : ℕ = length a.slots in
    let long : length front ≡ k = length-take-le k body upto in
    let kept : IsSetUp setup = setup_kept no_files setup litmus.setup run.begins (record { small = nothing_small; whole = nothing_whole; unmarked = refl }) in
    let begins : IsRun (begun setup) = run_begins setup kept.small kept.unmarked in
    let none : All (λ (e : Event). e.call < 1) [] = All-nil (λ e. e.call < 1) in
    let kept_p = run_keeps sizes 1 (begun setup) p front ran begins kept.whole none in
    let back_ran : run_body sizes n p back ≡ Ok q = sym (run_on sizes 1 (begun setup) p front back ran) ∙ ap (run_body sizes 1 (begun setup)) (take-append-drop k body) ∙ run.ends in
    let kept_q = run_keeps sizes n p q back back_ran kept_p.run kept_p.whole kept_p.calls in
    let asks = paths_keep q.files (paths_asked litmus.pred) kept_q.whole in
    let grown : Grows p.files a = grows_on p.files q.files a kept_q.grows asks.0.1 in
    let adds = run_adds sizes n p q back back_ran in
    let early : Event → Bool = λ e. nat_le e.call k in
    let first : filter early p.events ≡ p.events = all_pass early p.events (All-weaker (λ (e : Event). e.call < n) (λ (e : Event). early e ≡ true) (λ e h. le_true e.call k (omega (arith, h, long))) p.events kept_p.calls) in
    let later : filter early adds.0 ≡ [] = none_pass early adds.0 (All-weaker (λ (e : Event). n ≤ e.call) (λ (e : Event). early e ≡ false) (λ e h. le_false e.call k (omega (arith, h, long))) adds.0 adds.2) in
    let events : events_upto k t ≡ p.events =
    ap (λ (u : Trace). filter early u.events) (sym run.trace)
    ∙ ap (filter early) adds.1
    ∙ filter-append early p.events adds.0
    ∙ ap (λ (es : List Event). filter early p.events ++ es) later
    ∙ append-nil (filter early p.events)
    ∙ first in
    let held : held_behind k t ≡ filled count None p.files.held =
    sym (held_is k t)
    ∙ ap (λ (es : List Event). fold held_after t.start.slots es) events
    ∙ ap (λ (u : Trace). fold held_after u.start.slots p.events) (sym run.trace)
    ∙ held_run count (filled count None setup.held) sizes 1 (begun setup) p front ran begins kept.whole none grown.count refl in
    let all_dirs = body_calls litmus limits in
    let dirs : t.dirs ≡ p.files.dirs =
    ap (λ (u : Trace). u.dirs) (sym run.trace) ∙ asks.1.dirs ∙ run_dirs sizes n p q back back_ran (All-drop (λ step. is_body_call step.call ≡ true) k body all_dirs) in
    syncs_keep (λ c. refusal p.files c ≡ None) kind k t
    (λ file slot name best there touched.
    let best_held = least_holds (name_texts t) (held_behind k t) file slot best in
    let slot_held : slice_get p.files.held slot ≡ Some (Some best_held.0) =
    held_there count slot p.files.held best_held.0 (ap (λ (h : List (Option ℕ)). get_or h slot None) (sym held) ∙ best_held.1) in
    let within : slot < length p.files.slots = omega (arith, slice_get_within p.files.held slot (Some best_held.0) slot_held, kept_p.run.small.held) in
    let own = item_there p.files.slots slot within in
    let name_is : name ≡ own.0 =
    some_same name own.0 (sym there ∙ ap (λ (u : Trace). slice_get u.slots slot) (sym run.trace) ∙ grown.slots slot own.0 own.1) in
    let path_is : slot_path t.dirs name ≡ slot_path p.files.dirs own.0 = ap (λ (d : List (List (List ℕ))). slot_path d name) dirs ∙ ap (slot_path p.files.dirs) name_is in
    let dir_there : own.0.dir < length p.files.dirs =
    All-contains (λ (s : SlotName). s.dir < length p.files.dirs) p.files.slots own.0 kept_p.whole.dirs_there (slot, within, get_or_from_slice_get p.files.slots slot own.0 own.0 own.1) in
    let slot_is : slot_of p.files (slot_path t.dirs name) ≡ Some slot =
    ap (slot_of p.files) path_is ∙ own_slot p.files.dirs p.files.slots slot own.0 kept_p.whole.dirs_once kept_p.whole.slots_once dir_there own.1 in
    let file_is : file_of p.files (slot_path t.dirs name) ≡ Some best_held.0 =
    ap (λ (o : Option ℕ). option_and_then (λ h. h) (item_at p.files.held o)) slot_is ∙ ap (option_and_then (λ h. h)) slot_held in
    ap (λ (o : Option ℕ). kind_if (is_none o) NoSuchFile) file_is)
    (λ dir there touched. dir_found p.files t.dirs dir dirs there)
    refl
  where
    le_true : (m n : ℕ) → m ≤ n → nat_le m n ≡ true
    le_true m n h = grind (arith, nat_tests)

    le_false : (m n : ℕ) → n < m → nat_le m n ≡ false
    le_false m n h = grind (arith, nat_tests)

    dir_found : (s : Files) (all : List (List (List ℕ))) (dir : ℕ) → all ≡ s.dirs → dir < length all → refusal s (FsyncDir (get_or all dir [])) ≡ None
    dir_found s all dir same there =
        let path : List (List ℕ) = get_or all dir [] in
        elim (cases_Bool (is_dir s path)) [
          | inl found ↦ rw found refl
          | inr lost ↦
              let within : dir < length s.dirs = omega (arith, there, ap (λ (d : List (List (List ℕ))). length d) same) in
              let passes : same_path (get_or s.dirs dir []) path ≡ true = ap (λ (d : List (List (List ℕ))). same_path (get_or d dir []) path) (sym same) ∙ path_itself path in
              absurd (fresh (λ d. same_path d path) s.dirs lost dir [] within passes)
        ]

pub sites_accepted : (kind : SiteKind) (litmus : Test) (t : Trace) → IsWithinLimits litmus → HasEvents litmus [] t → length t.events + length (sites_of kind litmus.body t) ≤ 128
    → (u : Trace) × HasEvents litmus (sites_of kind litmus.body t) u
unfolding resolved
sites_accepted kind litmus t limits has few =
    let run = plain_run litmus t has in
    let sizes : Sizes = sizes_of litmus in
    let body : List Step = litmus.body in
    let start : Progress = begun run.setup in
    let q : Progress = run.behind in
    let sites : List Site = sites_of kind body t in
    let syncs : All (λ s. is_sync s.call ≡ true) sites =
    sites_keep (λ k c. is_sync c ≡ true) kind body t (λ k above below shut. syncs_keep (λ c. is_sync c ≡ true) kind k t (λ file slot name best there touched. refl) (λ dir there touched. refl) refl) in
    let found : AreFound sizes start body sites =
    sites_keep (λ k c. (p : Progress) → run_body sizes 1 start (take k body) ≡ Ok p → refusal p.files c ≡ None) kind body t
    (λ k above below shut. λ i d h. λ p ran. found_behind litmus t kind k p limits run below ran i d h) in
    let beside : IsBeside start start 0 = record { files = refl; changes = refl; few = omega arith; long = omega arith } in
    let long : length q.events ≡ length t.events = ap (λ (u : Trace). length u.events) run.trace in
    let out = walk sizes body sites start 1 1 [] body start start q 0 refl (omega arith) refl run.ends syncs found beside
    (omega (arith, few, long, length-filter (λ s. nat_le 1 s.after) sites, count_by-le-length (λ s. nat_le 1 s.after) sites)) in
    let u : Trace = trace_of run.setup (asked out.0.files litmus.pred) out.0.events in (
      u,
      ap (body_of litmus sites) run.begins
          ∙ ap (asked_of litmus run.setup) out.3
          ∙ ap (λ (o : Option CallKind). unless_refused o litmus.pred_line (Ok u)) (ap (λ (s : Files). question_refusal s litmus.pred) out.2.files ∙ run.asks),
    )
