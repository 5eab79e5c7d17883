-- Accepted calls keep what holds of every run.
use Rattle.std.proofs.Common.{◌≡◌, ℕ, suc, ◌+◌, ◌-◌, ◌<◌, ◌≤◌, Bool, true, false, ◌||◌, List, [], ◌∷◌, ◌++◌, length, Option, Some, None, IfSome, All, refl, sym, ◌∙◌, ap, subst, inl, inr, arith, length-append}
use Rattle.std.specs.Option.{option_map_or}
use Rattle.std.specs.Prelude.{count_by, if◌then◌else◌, unwrap_or}
use Rattle.std.proofs.lemmas.Bool.{cases_Bool, true≢false}
use Rattle.std.proofs.lemmas.List.Elements.{All-nil, All-cons, All-append, All-weaker}
use Rattle.std.proofs.lemmas.List.Sums.{sum_by-append}
use Rattle.std.proofs.lemmas.Option.{slice_get_cases}
use Rattle.litmus_syntax.specs.declared.call.Call.{Call}
use Rattle.litmus_syntax.specs.declared.call.Call.TheVariants.{Mkdir, Create, Write, Append, Truncate, Link, Unlink, Rename, Attr, Fsync, FsyncDir, Sync, Mark, Begin, Commit}
use Rattle.fer_events.specs.declared.event.Event.{Event}
use Rattle.call_events.specs.declared.files.Files.{Files}
use Rattle.call_events.specs.declared.files.Progress.{Progress}
use Rattle.call_events.specs.declared.making.Sizes.{Sizes}
use Rattle.call_events.specs.declared.making.Stamp.{Stamp}
use Rattle.call_events.specs.Cutting.{Piece, cut_up}
use Rattle.call_events.specs.Found.{file_of, size_of}
use Rattle.call_events.specs.Refusals.{refusal, too_many}
use Rattle.call_events.specs.Changes.{with_names, files_after, are_one}
use Rattle.call_events.specs.CallEvents.{next_stamp, piece_event, piece_events, events_of}
use Rattle.call_events.specs.Running.{last_txn, stamp_of, open_after, events_next, after_call, body_refusal, begun}
use Rattle.call_events.specs.Small.{IsSmall}
use Rattle.call_events.specs.Runs.{isnt_sync, IsRun}
use Rattle.call_events.proofs.Keeping.{first_none, second_none, test_fails, within, after_small, setup_words, length-noted_text, names_small}

-- a new event has one of the next transactions, or the one that all events of its call share
abbrev pub IsNext : Stamp → ℕ → Event → Type 0
IsNext stamp count e = (e.call ≡ stamp.call) × (stamp.txn ≤ e.txn) × (e.txn < stamp.txn + count) × (stamp.shared ≡ true → e.txn ≡ stamp.txn)

-- what is next behind the first event of a call is next
later_next : (stamp : Stamp) (count : ℕ) (e : Event) → IsNext (next_stamp stamp) count e → IsNext stamp (suc count) e
later_next stamp count e next = later stamp.shared refl next
  where
    later : (b : Bool) → stamp.shared ≡ b → IsNext (if b then stamp else record stamp { txn = stamp.txn + 1 }) count e → IsNext stamp (suc count) e
    later true is h = (h.0, h.1, omega (arith, h.2), h.3)
    later false is h = (h.0, omega (arith, h.1), omega (arith, h.2), λ shared. absurd (true≢false (sym shared ∙ is)))

pub pieces_next : (sizes : Sizes) (stamp : Stamp) (file : Option ℕ) (size : ℕ) (pieces : List Piece)
    → All (IsNext stamp (length (piece_events sizes stamp file size pieces))) (piece_events sizes stamp file size pieces)
pieces_next sizes stamp file size [] = All-nil (IsNext stamp 0)
pieces_next sizes stamp file size (piece ∷ pieces) =
    let rest : List Event = piece_events sizes (next_stamp stamp) file size pieces in
    All-cons (IsNext stamp (suc (length rest))) (piece_event sizes stamp file size piece) rest (refl, omega arith, omega arith, λ shared. refl)
    (All-weaker (IsNext (next_stamp stamp) (length rest)) (IsNext stamp (suc (length rest))) (λ e h. later_next stamp (length rest) e h) rest
    (pieces_next sizes (next_stamp stamp) file size pieces))

one_next : (stamp : Stamp) (e : Event) → e.call ≡ stamp.call → e.txn ≡ stamp.txn → All (IsNext stamp 1) (e ∷ [])
one_next stamp e call txn = All-cons (IsNext stamp 1) e [] (call, omega (arith, txn), omega (arith, txn), λ shared. txn) (All-nil (IsNext stamp 1))

two_next : (stamp : Stamp) (a b : Event) → a.call ≡ stamp.call → a.txn ≡ stamp.txn → b.call ≡ stamp.call → b.txn ≡ stamp.txn → All (IsNext stamp 2) (a ∷ b ∷ [])
two_next stamp a b call txn call' txn' =
    All-cons (IsNext stamp 2) a (b ∷ []) (call, omega (arith, txn), omega (arith, txn), λ shared. txn) (All-cons (IsNext stamp 2) b [] (call', omega (arith, txn'), omega (arith, txn'), λ shared. txn') (All-nil (IsNext stamp 2)))

rename_next : (sizes : Sizes) (stamp : Stamp) (s : Files) (from to : List (List ℕ)) → All (IsNext stamp (length (events_of sizes stamp s (Rename from to)))) (events_of sizes stamp s (Rename from to))
rename_next sizes stamp s from to = elim (cases_Bool (are_one s from to)) [
  | inl one ↦ rw one (All-nil (IsNext stamp 0))
  | inr two ↦ rw two (two_next stamp _ _ refl refl refl refl)
]

-- the events of a call have the next transactions
pub events_next_txns : (sizes : Sizes) (stamp : Stamp) (s : Files) (call : Call) → All (IsNext stamp (length (events_of sizes stamp s call))) (events_of sizes stamp s call)
events_next_txns sizes stamp s (Mkdir path) = All-nil (IsNext stamp 0)
events_next_txns sizes stamp s (Create path) = one_next stamp _ refl refl
events_next_txns sizes stamp s (Write path at text) = pieces_next sizes stamp (file_of s path) (size_of s (file_of s path)) (cut_up sizes at text)
events_next_txns sizes stamp s (Append path text) = pieces_next sizes stamp (file_of s path) (size_of s (file_of s path)) (cut_up sizes (size_of s (file_of s path)) text)
events_next_txns sizes stamp s (Truncate path size) = one_next stamp _ refl refl
events_next_txns sizes stamp s (Link from to) = one_next stamp _ refl refl
events_next_txns sizes stamp s (Unlink path) = one_next stamp _ refl refl
events_next_txns sizes stamp s (Rename from to) = rename_next sizes stamp s from to
events_next_txns sizes stamp s (Attr path key value) = one_next stamp _ refl refl
events_next_txns sizes stamp s (Fsync path) = one_next stamp _ refl refl
events_next_txns sizes stamp s (FsyncDir path) = one_next stamp _ refl refl
events_next_txns sizes stamp s Sync = one_next stamp _ refl refl
events_next_txns sizes stamp s Begin = All-nil (IsNext stamp 0)
events_next_txns sizes stamp s Commit = All-nil (IsNext stamp 0)
events_next_txns sizes stamp s (Mark word) = one_next stamp _ refl refl

pub count_append : (xs ys : List Event) → count_by isnt_sync (xs ++ ys) ≡ count_by isnt_sync xs + count_by isnt_sync ys
count_append xs ys = sum_by-append (λ e. if isnt_sync e then 1 else 0) xs ys

-- each new word comes with an event
words_marked : (sizes : Sizes) (stamp : Stamp) (s : Files) (call : Call) → length (files_after s call).words ≤ length s.words + count_by isnt_sync (events_of sizes stamp (with_names s call) call)
words_marked sizes stamp s (Mark word) = omega (arith, length-noted_text s.words word)
words_marked sizes stamp s (Mkdir path) = omega (arith, ap length (setup_words s (Mkdir path)))
words_marked sizes stamp s (Create path) = omega (arith, ap length (setup_words s (Create path)))
words_marked sizes stamp s (Write path at text) = omega (arith, ap length (setup_words s (Write path at text)))
words_marked sizes stamp s (Append path text) = omega (arith, ap length (setup_words s (Append path text)))
words_marked sizes stamp s (Truncate path size) = omega (arith, ap length (setup_words s (Truncate path size)))
words_marked sizes stamp s (Link from to) = omega (arith, ap length (setup_words s (Link from to)))
words_marked sizes stamp s (Unlink path) = omega (arith, ap length (setup_words s (Unlink path)))
words_marked sizes stamp s (Rename from to) = omega (arith, ap length (setup_words s (Rename from to)))
words_marked sizes stamp s (Attr path key value) = omega (arith, ap length (setup_words s (Attr path key value)))
words_marked sizes stamp s (Fsync path) = omega (arith, ap length (setup_words s (Fsync path)))
words_marked sizes stamp s (FsyncDir path) = omega (arith, ap length (setup_words s (FsyncDir path)))
words_marked sizes stamp s Sync = omega (arith, ap length (setup_words s Sync))
words_marked sizes stamp s Begin = omega (arith, ap length (setup_words s Begin))
words_marked sizes stamp s Commit = omega (arith, ap length (setup_words s Commit))

-- the last transaction is one of them
pub last_within : (limit : ℕ) (events : List Event) → All (λ e. e.txn ≤ limit) events → last_txn events ≤ limit
last_within limit events all = elim ((slice_get_cases events (length events - 1)).1) [
  | inl there ↦ let P : Option Event → Type 0 = λ o. option_map_or (λ e. e.txn) o 0 ≤ limit in
      subst P (sym there.2) (let Q : Event → Type 0 = λ e. e.txn ≤ limit in subst Q there.3 (all (length events - 1) there.0 there.1))
  | inr past ↦ let P : Option Event → Type 0 = λ o. option_map_or (λ e. e.txn) o 0 ≤ limit in subst P (sym past.1) (omega arith)
]

pub few_events : (events : List Event) → too_many events ≡ false → (count_by isnt_sync events ≤ 64) × (length events ≤ 128)
few_events events h =
    (within 64 (count_by isnt_sync events) (either_left _ _ h), within 128 (length events) (either_right _ _ h))
  where
    either_left : (a b : Bool) → (a || b) ≡ false → a ≡ false
    either_left true b h = h
    either_left false b h = refl

    either_right : (a b : Bool) → (a || b) ≡ false → b ≡ false
    either_right true b h = cc
    either_right false b h = h

-- what every run has room for
pub run_words : (p : Progress) → IsRun p → length p.files.words < 128
run_words p run = omega (arith, run.words, (few_events p.events run.within).0)

pub run_txns : (p : Progress) → IsRun p → last_txn p.events ≤ 128
run_txns p run = omega (arith, last_within (length p.events) p.events run.txns, (few_events p.events run.within).1)

-- the number of the next transaction, and of the open one
pub next_txn : (p : Progress) → IsRun p → last_txn p.events + 1 ≤ length p.events + 1
next_txn p run = omega (arith, last_within (length p.events) p.events run.txns)

txn_within : (o : Option ℕ) (next limit : ℕ) → IfSome o (λ txn. txn ≤ limit) → next ≤ limit → unwrap_or o next ≤ limit
txn_within None next limit opened later = later
txn_within (Some txn) next limit opened later = opened

pub stamp_within : (number : ℕ) (p : Progress) → IsRun p → (stamp_of number p).txn ≤ length p.events + 1
stamp_within number p run = txn_within p.opened (last_txn p.events + 1) (length p.events + 1) run.opened (next_txn p run)

wider : (o : Option ℕ) (m n : ℕ) → m ≤ n → IfSome o (λ txn. txn ≤ m) → IfSome o (λ txn. txn ≤ n)
wider None m n l h = tt
wider (Some txn) m n l h = omega (arith, l, h)

still_open : (p : Progress) (more : List Event) → IsRun p → IfSome p.opened (λ txn. txn ≤ length (p.events ++ more) + 1)
still_open p more run = wider p.opened (length p.events + 1) (length (p.events ++ more) + 1) (omega (arith, length-append p.events more)) run.opened

open_within : (sizes : Sizes) (number : ℕ) (p : Progress) (call : Call) → IsRun p → IfSome (open_after p call) (λ txn. txn ≤ length (after_call sizes number p call).events + 1)
open_within sizes number p Begin run = omega (arith, next_txn p run, length-append {A = Event} p.events [])
open_within sizes number p Commit run = tt
open_within sizes number p call run = still_open p (events_next sizes number p call) run

-- an accepted call keeps what holds of every run
pub run_more : (sizes : Sizes) (number : ℕ) (p : Progress) (call : Call) → IsRun p → body_refusal sizes number p call ≡ None → IsRun (after_call sizes number p call)
run_more sizes number p call run accepted =
    let more : List Event = events_next sizes number p call in
    let stamp : Stamp = stamp_of number p in
    let here : refusal p.files call ≡ None = first_none _ _ accepted in
    let both : length (p.events ++ more) ≡ length p.events + length more = length-append p.events more in
    let first : stamp.txn ≤ length p.events + 1 = stamp_within number p run in
    record {
      small = after_small p.files call run.small here (run_words p run);
      within = test_fails _ _ (second_none _ _ accepted);
      words = omega (arith, words_marked sizes stamp p.files call, count_append p.events more, run.words);
      txns = All-append (λ e. e.txn ≤ length (p.events ++ more)) p.events more
          (All-weaker (λ e. e.txn ≤ length p.events) (λ e. e.txn ≤ length (p.events ++ more)) (λ e h. omega (arith, h, both)) p.events run.txns)
          (All-weaker (IsNext stamp (length more)) (λ e. e.txn ≤ length (p.events ++ more)) (λ e h. omega (arith, h.2, both, first)) more (events_next_txns sizes stamp (with_names p.files call) call));
      opened = open_within sizes number p call run;
    }

-- a body begins as a run
pub run_begins : (s : Files) → IsSmall s → s.words ≡ [] → IsRun (begun s)
run_begins s small unmarked = record {
  small = small;
  within = refl;
  words = let none = ap length unmarked in omega (arith, none);
  txns = All-nil (λ e. e.txn ≤ 0);
  opened = tt;
}

-- the files with new names, as a call changes them
pub run_names : (p : Progress) (t : Files) (call : Call) → IsRun p → refusal p.files call ≡ None → t ≡ with_names p.files call → IsSmall t
run_names p t call run accepted is = subst IsSmall (sym is) (names_small p.files call run.small accepted (run_words p run))
