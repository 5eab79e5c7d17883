-- The events of a run meet the rules of a trace.
use Rattle.std.proofs.Common.{◌≡◌, ℕ, ◌+◌, ◌-◌, ◌<◌, ◌≤◌, true, IsTrue, List, [], ◌∷◌, ◌++◌, length, get_or, fold, replicate, Option, Some, None, IfSome, is_some, All, refl, ◌∙◌, ap, inl, inr, arith, length-append}
use Rattle.std.specs.Option.{option_map_or}
use Rattle.std.specs.Prelude.{unwrap_or}
use Rattle.std.specs.List.Sorted.{IsNonDecreasingBy}
use Rattle.std.proofs.lemmas.Bool.{cases_Bool}
use Rattle.std.proofs.lemmas.List.{length-replicate}
use Rattle.std.proofs.lemmas.List.Elements.{All-nil, All-cons, All-tail, All-append, All-replicate, All-weaker}
use Rattle.std.proofs.lemmas.Option.{slice_get-get_or}
use Rattle.litmus_syntax.specs.declared.call.Call.{Call}
use Rattle.litmus_syntax.specs.declared.call.Call.TheVariants.{Mkdir, Create, Write, Append, Truncate, Link, Unlink, Rename, Attr, Fsync, FsyncDir, Sync, Mark, Begin, Commit}
use Rattle.litmus_syntax.specs.Forms.{is_formed_call}
use Rattle.litmus_syntax.specs.declared.pred.Pred.{Pred}
use Rattle.fer_events.specs.declared.event.Event.{Event}
use Rattle.fer_events.specs.declared.tables.SlotName.{SlotName}
use Rattle.fer_events.specs.Tables.{Trace, file_count, IsEventOf, IsTrace}
use Rattle.call_events.specs.declared.files.Files.{Files}
use Rattle.call_events.specs.declared.files.Progress.{Progress}
use Rattle.call_events.specs.declared.making.Sizes.{Sizes}
use Rattle.call_events.specs.declared.making.Stamp.{Stamp}
use Rattle.call_events.specs.Cutting.{Piece, cut_up}
use Rattle.fer_events.specs.Paths.{entry_number}
use Rattle.call_events.specs.Found.{is_dir, entry_of, file_of, size_of}
use Rattle.call_events.specs.Refusals.{refusal}
use Rattle.call_events.specs.Changes.{with_entry, with_names, files_after, are_one}
use Rattle.call_events.specs.CallEvents.{next_stamp, piece_event, piece_events, events_of}
use Rattle.call_events.specs.Running.{last_txn, stamp_of, open_after, events_next, after_call, body_refusal, begun}
use Rattle.call_events.specs.Asking.{paths_asked, with_asked, asked, question_refusal}
use Rattle.call_events.specs.Resolved.{trace_of}
use Rattle.call_events.specs.Small.{IsSmall}
use Rattle.call_events.specs.Runs.{IsConsistent, Grows, IsRun, AreFormed, IsTraced, now}
use Rattle.call_events.proofs.Keeping.{first_none, second_none, test_fails, within}
use Rattle.call_events.proofs.Formed.{call_formed}
use Rattle.call_events.proofs.Runs.{IsNext, pieces_next, events_next_txns, last_within, run_words, few_events}
use Rattle.call_events.proofs.Whole.{Keeps, grows_same, grows_on, slot_whole, call_whole, call_grows}
use Rattle.call_events.proofs.Fitting.{if_weaker, events_grow, rise_append}
use Rattle.call_events.proofs.NewEvents.{call_fits}

same_rise : (f : Event → ℕ) (m : ℕ) (xs : List Event) → All (λ e. f e ≡ m) xs → IsNonDecreasingBy f xs
same_rise f m xs all = λ i j d l h. omega (arith, all i d (omega (arith, l, h)), all j d h)

one_rises : (stamp : Stamp) (e : Event) → e.txn ≡ stamp.txn → IsNonDecreasingBy (λ e. e.txn) (e ∷ [])
one_rises stamp e is = same_rise (λ e. e.txn) stamp.txn (e ∷ []) (All-cons (λ e. e.txn ≡ stamp.txn) e [] is (All-nil (λ e. e.txn ≡ stamp.txn)))

two_rise : (stamp : Stamp) (a b : Event) → a.txn ≡ stamp.txn → b.txn ≡ stamp.txn → IsNonDecreasingBy (λ e. e.txn) (a ∷ b ∷ [])
two_rise stamp a b first second =
    same_rise (λ e. e.txn) stamp.txn (a ∷ b ∷ []) (All-cons (λ e. e.txn ≡ stamp.txn) a (b ∷ []) first (All-cons (λ e. e.txn ≡ stamp.txn) b [] second (All-nil (λ e. e.txn ≡ stamp.txn))))

none_rise : IsNonDecreasingBy (λ (e : Event). e.txn) []
none_rise = λ i j d l h. absurd (omega (arith, h))

pieces_rise : (sizes : Sizes) (stamp : Stamp) (file : Option ℕ) (size : ℕ) (pieces : List Piece) → IsNonDecreasingBy (λ e. e.txn) (piece_events sizes stamp file size pieces)
pieces_rise sizes stamp file size [] = none_rise
pieces_rise sizes stamp file size (piece ∷ pieces) =
    let first : Event = piece_event sizes stamp file size piece in
    let rest : List Event = piece_events sizes (next_stamp stamp) file size pieces in
    rise_append (λ e. e.txn) stamp.txn (first ∷ []) rest (one_rises stamp first refl) (pieces_rise sizes (next_stamp stamp) file size pieces)
    (All-cons (λ e. e.txn ≤ stamp.txn) first [] (omega arith) (All-nil (λ e. e.txn ≤ stamp.txn)))
    (All-tail (λ e. stamp.txn ≤ e.txn) first rest (All-weaker (IsNext stamp (length (first ∷ rest))) (λ e. stamp.txn ≤ e.txn) (λ e h. h.1) (first ∷ rest) (pieces_next sizes stamp file size (piece ∷ pieces))))

rename_rises : (sizes : Sizes) (stamp : Stamp) (s : Files) (from to : List (List ℕ)) → IsNonDecreasingBy (λ e. e.txn) (events_of sizes stamp s (Rename from to))
rename_rises sizes stamp s from to = elim (cases_Bool (are_one s from to)) [ inl same ↦ rw same none_rise | inr two ↦ rw two (two_rise stamp _ _ refl refl) ]

events_rise : (sizes : Sizes) (stamp : Stamp) (s : Files) (call : Call) → IsNonDecreasingBy (λ e. e.txn) (events_of sizes stamp s call)
events_rise sizes stamp s (Mkdir path) = none_rise
events_rise sizes stamp s (Create path) = one_rises stamp _ refl
events_rise sizes stamp s (Write path at text) = pieces_rise sizes stamp (file_of s path) (size_of s (file_of s path)) (cut_up sizes at text)
events_rise sizes stamp s (Append path text) = pieces_rise sizes stamp (file_of s path) (size_of s (file_of s path)) (cut_up sizes (size_of s (file_of s path)) text)
events_rise sizes stamp s (Truncate path size) = one_rises stamp _ refl
events_rise sizes stamp s (Link from to) = one_rises stamp _ refl
events_rise sizes stamp s (Unlink path) = one_rises stamp _ refl
events_rise sizes stamp s (Rename from to) = rename_rises sizes stamp s from to
events_rise sizes stamp s (Attr path key value) = one_rises stamp _ refl
events_rise sizes stamp s (Fsync path) = one_rises stamp _ refl
events_rise sizes stamp s (FsyncDir path) = one_rises stamp _ refl
events_rise sizes stamp s Sync = one_rises stamp _ refl
events_rise sizes stamp s Begin = none_rise
events_rise sizes stamp s Commit = none_rise
events_rise sizes stamp s (Mark word) = one_rises stamp _ refl

below_last : (es : List Event) → IsNonDecreasingBy (λ e. e.txn) es → All (λ e. e.txn ≤ last_txn es) es
below_last es rises = λ k d h.
    let last : last_txn es ≡ (get_or es (length es - 1) d).txn = ap (λ (o : Option Event). option_map_or (λ e. e.txn) o 0) (slice_get-get_or es (length es - 1) d (omega (arith, h))) in
    omega (arith, last, rises k (length es - 1) d (omega (arith, h)) (omega (arith, h)))

-- the last transaction isn't later than the open one
last_below : (events : List Event) (o : Option ℕ) → IfSome o (λ txn. All (λ e. e.txn ≤ txn) events) → last_txn events ≤ unwrap_or o (last_txn events + 1)
last_below events None opened = omega arith
last_below events (Some txn) opened = last_within txn events opened

open_kept : (p : Progress) (o : Option ℕ) (number : ℕ) (more : List Event) → p.opened ≡ o → All (IsNext (stamp_of number p) (length more)) more
    → IfSome o (λ txn. All (λ e. e.txn ≤ txn) p.events) → IfSome o (λ txn. All (λ e. e.txn ≤ txn) (p.events ++ more))
open_kept p None number more is next opened = tt
open_kept p (Some txn) number more is next opened =
    let shared : is_some p.opened ≡ true = ap is_some is in
    let same : (stamp_of number p).txn ≡ txn = ap (λ (o : Option ℕ). unwrap_or o (last_txn p.events + 1)) is in
    All-append (λ e. e.txn ≤ txn) p.events more opened
    (All-weaker (IsNext (stamp_of number p) (length more)) (λ e. e.txn ≤ txn) (λ e h. let own = h.3 shared in omega (arith, own, same)) more next)

still_open : (p : Progress) (number : ℕ) (more : List Event) → All (IsNext (stamp_of number p) (length more)) more → IfSome p.opened (λ txn. All (λ e. e.txn ≤ txn) p.events)
    → IfSome p.opened (λ txn. All (λ e. e.txn ≤ txn) (p.events ++ more))
still_open p number more next opened = open_kept p p.opened number more refl next opened

open_above : (sizes : Sizes) (number : ℕ) (p : Progress) (call : Call) → IsNonDecreasingBy (λ e. e.txn) p.events → IfSome p.opened (λ txn. All (λ e. e.txn ≤ txn) p.events)
    → IfSome (open_after p call) (λ txn. All (λ e. e.txn ≤ txn) (after_call sizes number p call).events)
open_above sizes number p Begin rises opened =
    All-append (λ e. e.txn ≤ last_txn p.events + 1) p.events [] (All-weaker (λ e. e.txn ≤ last_txn p.events) (λ e. e.txn ≤ last_txn p.events + 1) (λ e h. omega (arith, h)) p.events (below_last p.events rises))
    (All-nil (λ e. e.txn ≤ last_txn p.events + 1))
open_above sizes number p Commit rises opened = tt
open_above sizes number p call rises opened = still_open p number (events_next sizes number p call) (events_next_txns sizes (stamp_of number p) (with_names p.files call) call) opened

-- an accepted call keeps a run a trace
pub traced_more : (sizes : Sizes) (number : ℕ) (setup : Files) (p : Progress) (call : Call) → IsRun p → IsTraced setup p → All (λ e. e.call < number) p.events → IsTrue (is_formed_call call)
    → body_refusal sizes number p call ≡ None → IsTraced setup (after_call sizes number p call)
traced_more sizes number setup p call run traced calls formed accepted =
    let more : List Event = events_next sizes number p call in
    let stamp : Stamp = stamp_of number p in
    let here : refusal p.files call ≡ None = first_none _ _ accepted in
    let words : length p.files.words < 128 = run_words p run in
    let keeps : Keeps p.files (files_after p.files call) = call_whole p.files call run.small words traced.whole here in
    let next : All (IsNext stamp (length more)) more = events_next_txns sizes stamp (with_names p.files call) call in
    let last : last_txn p.events ≤ stamp.txn = last_below p.events p.opened traced.opened in
    record {
      whole = keeps.0;
      grown = grows_on setup p.files (files_after p.files call) traced.grown keeps.1;
      fits = All-append (IsEventOf (now (files_after p.files call))) p.events more
          (events_grow p.files (files_after p.files call) p.events keeps.1 traced.fits)
          (events_grow (with_names p.files call) (files_after p.files call) more (call_grows p.files call run.small words traced.whole here) (call_fits sizes stamp p.files call run.small traced.whole words here));
      calls_rise = rise_append (λ e. e.call) number p.events more traced.calls_rise
          (same_rise (λ e. e.call) number more (All-weaker (IsNext stamp (length more)) (λ e. e.call ≡ number) (λ e h. h.0) more next))
          (All-weaker (λ e. e.call < number) (λ e. e.call ≤ number) (λ e h. omega (arith, h)) p.events calls)
          (All-weaker (IsNext stamp (length more)) (λ e. number ≤ e.call) (λ e h. omega (arith, h.0)) more next);
      txns_rise = rise_append (λ e. e.txn) (last_txn p.events) p.events more traced.txns_rise (events_rise sizes stamp (with_names p.files call) call)
          (below_last p.events traced.txns_rise)
          (All-weaker (IsNext stamp (length more)) (λ e. last_txn p.events ≤ e.txn) (λ e h. omega (arith, h.1, last)) more next);
      opened = open_above sizes number p call traced.txns_rise traced.opened;
      formed = call_formed p.files call formed traced.formed;
    }

pub calls_more : (sizes : Sizes) (number : ℕ) (p : Progress) (call : Call) → All (λ e. e.call < number) p.events → All (λ e. e.call < number + 1) (after_call sizes number p call).events
calls_more sizes number p call calls =
    let more : List Event = events_next sizes number p call in
    let stamp : Stamp = stamp_of number p in
    All-append (λ e. e.call < number + 1) p.events more (All-weaker (λ e. e.call < number) (λ e. e.call < number + 1) (λ e h. omega (arith, h)) p.events calls)
    (All-weaker (IsNext stamp (length more)) (λ e. e.call < number + 1) (λ e h. omega (arith, h.0)) more (events_next_txns sizes stamp (with_names p.files call) call))

pub traced_begins : (s : Files) → IsConsistent s → AreFormed s → IsTraced s (begun s)
traced_begins s whole formed = record {
  whole = whole;
  grown = grows_same s;
  fits = All-nil (IsEventOf (now s));
  calls_rise = λ i j d l h. absurd (omega (arith, h));
  txns_rise = none_rise;
  opened = tt;
  formed = formed;
}

-- what a question changes: slots alone
pub record SlotsAlone (s t : Files) : Type 0 where
  pub dirs : t.dirs ≡ s.dirs
  pub contents : t.contents ≡ s.contents
  pub keys : t.keys ≡ s.keys
  pub words : t.words ≡ s.words

entry_alone : (s : Files) (o : Option SlotName) → SlotsAlone s (with_entry s o)
entry_alone s None = record { dirs = refl; contents = refl; keys = refl; words = refl }
entry_alone s (Some e) = elim (cases_Bool (is_some (entry_number s.slots e))) [
  | inl old ↦ rw old (record { dirs = refl; contents = refl; keys = refl; words = refl })
  | inr new ↦ rw new (record { dirs = refl; contents = refl; keys = refl; words = refl })
]

path_keeps : (s : Files) (path : List (List ℕ)) → IsConsistent s → Keeps s (with_asked s path) × SlotsAlone s (with_asked s path)
path_keeps s path whole = elim (cases_Bool (is_dir s path)) [
  | inl dir ↦ rw dir ((whole, grows_same s), record { dirs = refl; contents = refl; keys = refl; words = refl })
  | inr name ↦ rw name (slot_whole s path whole, entry_alone s (entry_of s path))
]

pub paths_keep : (s : Files) (paths : List (List (List ℕ))) → IsConsistent s → Keeps s (fold with_asked s paths) × SlotsAlone s (fold with_asked s paths)
paths_keep s [] whole = ((whole, grows_same s), record { dirs = refl; contents = refl; keys = refl; words = refl })
paths_keep s (path ∷ paths) whole =
    let t : Files = with_asked s path in
    let one = path_keeps s path whole in
    let rest = paths_keep t paths one.0.0 in (
      (rest.0.0, grows_on s t (fold with_asked t paths) one.0.1 rest.0.1),
      record { dirs = rest.1.dirs ∙ one.1.dirs; contents = rest.1.contents ∙ one.1.contents; keys = rest.1.keys ∙ one.1.keys; words = rest.1.words ∙ one.1.words },
    )

-- what a run left, with the slots that the question asks for, is a trace
pub rules_hold : (setup : Files) (p : Progress) (pred : Pred) → IsSmall setup → IsConsistent setup → IsRun p → IsTraced setup p → question_refusal p.files pred ≡ None → AreFormed (asked p.files pred) → IsTrace (trace_of setup (asked p.files pred) p.events)
rules_hold setup p pred small whole run traced accepted formed =
    let s : Files = asked p.files pred in
    let kept = paths_keep p.files (paths_asked pred) traced.whole in
    let grown : Grows setup s = grows_on setup p.files s traced.grown kept.0.1 in
    let held_long : length (setup.held ++ replicate (length s.slots - length setup.held) None) ≡ length s.slots =
    omega (arith, length-append {A = Option ℕ} setup.held (replicate (length s.slots - length setup.held) None), length-replicate {A = Option ℕ} (length s.slots - length setup.held) None, small.held, grown.count) in
    let files_long : length (setup.contents ++ replicate (length s.contents - length setup.contents) []) ≡ length s.contents =
    omega (arith, length-append {A = List ℕ} setup.contents (replicate (length s.contents - length setup.contents) []), length-replicate {A = List ℕ} (length s.contents - length setup.contents) [], grown.files) in
    let fits : All (IsEventOf (now s)) p.events = events_grow p.files s p.events kept.0.1 traced.fits in
    let t : Trace = trace_of setup s p.events in
    record {
      slots_held = held_long;
      files_there = All-append (λ held. IfSome held (λ f. f < file_count t)) setup.held (replicate (length s.slots - length setup.held) None)
          (All-weaker (λ held. IfSome held (λ f. f < length setup.contents)) (λ held. IfSome held (λ f. f < file_count t))
          (λ held h. if_weaker (λ f. f < length setup.contents) (λ f. f < file_count t) held (λ f l. omega (arith, l, files_long, grown.files)) h) setup.held small.files_there)
          (All-replicate (λ held. IfSome held (λ f. f < file_count t)) (length s.slots - length setup.held) None tt);
      contents_fit = All-append (λ content. length content ≤ 65536) setup.contents (replicate (length s.contents - length setup.contents) []) small.contents
          (All-replicate (λ content. length content ≤ 65536) (length s.contents - length setup.contents) [] (omega arith));
      attrs_there = All-weaker (λ a. (a.file < length setup.contents) × (a.key < length setup.keys)) (λ a. (a.file < file_count t) × (a.key < length s.keys))
          (λ a h. (omega (arith, h.0, files_long, grown.files), omega (arith, h.1, grown.keys))) setup.attrs whole.attrs_there;
      attrs_once = whole.attrs_once;
      dirs_there = kept.0.0.dirs_there;
      dirs_formed = formed.dirs;
      slots_formed = formed.slots;
      keys_formed = formed.keys;
      words_formed = formed.words;
      dirs_once = kept.0.0.dirs_once;
      slots_once = kept.0.0.slots_once;
      keys_once = kept.0.0.keys_once;
      words_once = kept.0.0.words_once;
      events_fit = All-weaker (IsEventOf (now s)) (IsEventOf t) (λ e h. record {
        carries = h.carries;
        file_there = if_weaker (λ f. f < length s.contents) (λ f. f < file_count t) e.file (λ f l. omega (arith, l, files_long)) h.file_there;
        dir_there = h.dir_there;
        slot_there = h.slot_there;
        effect = h.effect;
      }) p.events fits;
      calls_rise = traced.calls_rise;
      txns_rise = traced.txns_rise;
      few_events = (few_events p.events run.within).1;
      few_files = omega (arith, files_long, ap (λ (c : List (List ℕ)). length c) kept.1.contents, run.small.files);
      few_dirs = omega (arith, ap (λ (d : List (List (List ℕ))). length d) kept.1.dirs, run.small.dirs);
      few_slots = within 64 (length s.slots) (test_fails _ _ (second_none _ _ accepted));
      few_keys = omega (arith, ap (λ (k : List (List ℕ)). length k) kept.1.keys, run.small.keys);
      few_words = omega (arith, ap (λ (w : List (List ℕ)). length w) kept.1.words, run.small.words);
    }
