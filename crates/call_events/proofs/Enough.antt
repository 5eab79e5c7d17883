-- The first 65 events of a call are enough to tell whether a body has too many.
use Rattle.std.proofs.Common.{◌≡◌, ℕ, suc, ◌+◌, ◌-◌, ◌<◌, ◌≤◌, Bool, true, nat_le, List, [], ◌∷◌, ◌++◌, length, take, drop, Option, None, All, refl, sym, ◌∙◌, ap, inl, inr, arith, append_assoc, length-take}
use Rattle.std.specs.Prelude.{count_by}
use Rattle.std.proofs.lemmas.Bool.{cases_Bool, cases_lt}
use Rattle.std.proofs.lemmas.Bool.Decides.{nat_tests}
use Rattle.std.proofs.lemmas.List.{take_all}
use Rattle.std.proofs.lemmas.List.Elements.{All-nil, All-cons, All-head, All-tail, All-take}
use Rattle.litmus_syntax.specs.declared.call.Call.{Call}
use Rattle.litmus_syntax.specs.declared.call.Call.TheVariants.{Mkdir, Create, Write, Append, Truncate, Link, Unlink, Rename, Attr, Fsync, FsyncDir, Sync, Mark, Begin, Commit}
use Rattle.fer_events.specs.declared.event.Event.{Event}
use Rattle.call_events.specs.declared.files.Files.{Files}
use Rattle.call_events.specs.declared.files.Progress.{Progress}
use Rattle.call_events.specs.declared.call_kind.CallKind.{CallKind}
use Rattle.call_events.specs.declared.call_kind.CallKind.TheVariants.{TooManyEvents}
use Rattle.call_events.specs.declared.making.Sizes.{Sizes}
use Rattle.call_events.specs.declared.making.Stamp.{Stamp}
use Rattle.call_events.specs.Cutting.{Piece, cut_up}
use Rattle.call_events.specs.Found.{file_of, size_of}
use Rattle.call_events.specs.Refusals.{kind_if, too_many, events_full}
use Rattle.call_events.specs.Changes.{with_names, are_one}
use Rattle.call_events.specs.CallEvents.{name_event, next_stamp, piece_event, piece_events, text_events, rename_events, events_of}
use Rattle.fer_events.specs.declared.event.Kind.TheVariants as kind
use Rattle.fer_events.specs.declared.event.Effect.TheVariants.{PutName, ClearName}
use Rattle.call_events.specs.Running.{stamp_of, events_next}
use Rattle.call_events.specs.Small.{IsCutting}
use Rattle.call_events.specs.Runs.{isnt_sync}
use Rattle.call_events.proofs.Cutting.{first_len, first_cut}
use Rattle.call_events.proofs.Keeping.{test_fails}
use Rattle.call_events.proofs.Runs.{count_append, few_events}

-- one event more of the first 65
more_taken : (front rest whole : List Event) (e : Event) (i : ℕ) → i < 65 → front ++ take (65 - i) (e ∷ rest) ≡ whole → (front ++ e ∷ []) ++ take (65 - (i + 1)) rest ≡ whole
more_taken front rest whole e i below so_far =
    let less : 65 - i ≡ suc (65 - (i + 1)) = omega arith in
    append_assoc front (e ∷ []) (take (65 - (i + 1)) rest) ∙ ap (λ (n : ℕ). front ++ take n (e ∷ rest)) (sym less) ∙ so_far

-- the event of the first piece moves from the rest of a text to the events that are made
pub one_more_event : (sizes : Sizes) (stamp next : Stamp) (file : Option ℕ) (size at later n : ℕ) (text piece rest : List ℕ) (front whole : List Event) (e : Event) (i : ℕ) → i < 65 → IsCutting sizes → 0 < length text
    → n ≡ first_len sizes at (length text) → piece ≡ take n text → rest ≡ drop n text → later ≡ at + n → next ≡ next_stamp stamp → e ≡ piece_event sizes stamp file size (record { at = at; text = piece })
    → front ++ take (65 - i) (text_events sizes stamp file size at text) ≡ whole
    → (front ++ e ∷ []) ++ take (65 - (i + 1)) (text_events sizes next file size later rest) ≡ whole
one_more_event sizes stamp next file size at later n text piece rest front whole e i below cuts some len piece_is rest_is later_is next_is e_is so_far =
    let first : Piece = record { at = at; text = take n text } in
    let cut : cut_up sizes at text ≡ first ∷ cut_up sizes (at + n) (drop n text) = first_cut sizes at text n cuts some len in
    let made : e ≡ piece_event sizes stamp file size first = e_is ∙ ap (λ (p : List ℕ). piece_event sizes stamp file size (record { at = at; text = p })) piece_is in
    let events : text_events sizes stamp file size at text ≡ e ∷ text_events sizes next file size later rest =
    ap (piece_events sizes stamp file size) cut
    ∙ ap (λ (f : Event). f ∷ piece_events sizes (next_stamp stamp) file size (cut_up sizes (at + n) (drop n text))) (sym made)
    ∙ ap (λ (s : Stamp). e ∷ piece_events sizes s file size (cut_up sizes (at + n) (drop n text))) (sym next_is)
    ∙ ap (λ (k : ℕ). e ∷ piece_events sizes next file size (cut_up sizes k (drop n text))) (sym later_is)
    ∙ ap (λ (r : List ℕ). e ∷ piece_events sizes next file size (cut_up sizes later r)) (sym rest_is) in
    more_taken front (text_events sizes next file size later rest) whole e i below (ap (λ (es : List Event). front ++ take (65 - i) es) (sym events) ∙ so_far)

-- the next transaction is at most one more
pub next_txn_most : (stamp : Stamp) → (next_stamp stamp).txn ≤ stamp.txn + 1
next_txn_most stamp = elim (cases_Bool stamp.shared) [ inl shared ↦ rw shared (omega arith) | inr apart ↦ rw apart (omega arith) ]

pieces_change : (sizes : Sizes) (stamp : Stamp) (file : Option ℕ) (size : ℕ) (pieces : List Piece) → All (λ e. isnt_sync e ≡ true) (piece_events sizes stamp file size pieces)
pieces_change sizes stamp file size [] = All-nil (λ e. isnt_sync e ≡ true)
pieces_change sizes stamp file size (piece ∷ pieces) =
    All-cons (λ e. isnt_sync e ≡ true) (piece_event sizes stamp file size piece) (piece_events sizes (next_stamp stamp) file size pieces)
    (elim (cases_Bool (nat_le (piece.at + length piece.text) size)) [ inl fits ↦ rw fits refl | inr longer ↦ rw longer refl ])
    (pieces_change sizes (next_stamp stamp) file size pieces)

renames_change : (s : Files) (stamp : Stamp) (from to : List (List ℕ)) → All (λ e. isnt_sync e ≡ true) (rename_events s stamp from to)
renames_change s stamp from to =
    let P : Event → Type 0 = λ e. isnt_sync e ≡ true in
    let first : Event = name_event s stamp kind.Link (file_of s from) to PutName in
    let second : Event = name_event s stamp kind.Unlink (file_of s from) from ClearName in
    elim (cases_Bool (are_one s from to)) [
      | inl one ↦ rw one (All-nil P)
      | inr two ↦ rw two (All-cons P first (second ∷ []) refl (All-cons P second [] refl (All-nil P)))
    ]

-- a call that makes more than two events makes no sync
many_change : (sizes : Sizes) (stamp : Stamp) (s : Files) (call : Call) → 2 < length (events_of sizes stamp s call) → All (λ e. isnt_sync e ≡ true) (events_of sizes stamp s call)
many_change sizes stamp s (Write path at text) many = pieces_change sizes stamp (file_of s path) (size_of s (file_of s path)) (cut_up sizes at text)
many_change sizes stamp s (Append path text) many = pieces_change sizes stamp (file_of s path) (size_of s (file_of s path)) (cut_up sizes (size_of s (file_of s path)) text)
many_change sizes stamp s (Rename from to) many = renames_change s stamp from to
many_change sizes stamp s (Mkdir path) many = absurd (omega (arith, many))
many_change sizes stamp s (Create path) many = absurd (omega (arith, many))
many_change sizes stamp s (Truncate path size) many = absurd (omega (arith, many))
many_change sizes stamp s (Link from to) many = absurd (omega (arith, many))
many_change sizes stamp s (Unlink path) many = absurd (omega (arith, many))
many_change sizes stamp s (Attr path key value) many = absurd (omega (arith, many))
many_change sizes stamp s (Fsync path) many = absurd (omega (arith, many))
many_change sizes stamp s (FsyncDir path) many = absurd (omega (arith, many))
many_change sizes stamp s Sync many = absurd (omega (arith, many))
many_change sizes stamp s (Mark word) many = absurd (omega (arith, many))
many_change sizes stamp s Begin many = absurd (omega (arith, many))
many_change sizes stamp s Commit many = absurd (omega (arith, many))

count_all : (events : List Event) → All (λ e. isnt_sync e ≡ true) events → count_by isnt_sync events ≡ length events
count_all [] all = refl
count_all (e ∷ events) all =
    let here : isnt_sync e ≡ true = All-head (λ e. isnt_sync e ≡ true) e events all in
    let one : count_by isnt_sync (e ∷ []) ≡ 1 = rw here refl in
    omega (arith, count_append (e ∷ []) events, one, count_all events (All-tail (λ e. isnt_sync e ≡ true) e events all))

too_many_of : (events : List Event) → 64 < count_by isnt_sync events → too_many events ≡ true
too_many_of events many = grind (arith, nat_tests)

-- the first 65 tell the same as all
pub enough : (sizes : Sizes) (stamp : Stamp) (s : Files) (call : Call) (before : List Event)
    → too_many (before ++ take 65 (events_of sizes stamp s call)) ≡ too_many (before ++ events_of sizes stamp s call)
enough sizes stamp s call before =
    let more : List Event = events_of sizes stamp s call in
    elim (cases_lt 65 (length more)) [
      | inr few ↦ ap (λ (es : List Event). too_many (before ++ es)) (take_all 65 more few)
      | inl many ↦
          let all : All (λ e. isnt_sync e ≡ true) more = many_change sizes stamp s call (omega arith) in
          let first : count_by isnt_sync (take 65 more) ≡ length (take 65 more) = count_all (take 65 more) (All-take (λ e. isnt_sync e ≡ true) 65 more all) in
          too_many_of (before ++ take 65 more) (omega (arith, count_append before (take 65 more), first, length-take 65 more))
          ∙ sym (too_many_of (before ++ more) (omega (arith, count_append before more, count_all more all)))
    ]

-- of a call that is accepted they are all
pub all_taken : (sizes : Sizes) (stamp : Stamp) (s : Files) (call : Call) (before : List Event)
    → events_full before (events_of sizes stamp s call) ≡ None → take 65 (events_of sizes stamp s call) ≡ events_of sizes stamp s call
all_taken sizes stamp s call before accepted =
    let more : List Event = events_of sizes stamp s call in
    let few = few_events (before ++ more) (test_fails _ _ accepted) in
    elim (cases_lt 65 (length more)) [
      | inr least ↦ take_all 65 more least
      | inl many ↦ absurd (omega (arith, few.0, count_append before more, count_all more (many_change sizes stamp s call (omega arith))))
    ]

-- whether the events that are made pass a limit is whether all events of the call do
pub kind_is : (sizes : Sizes) (number : ℕ) (p : Progress) (call : Call) (stamp : Stamp) (files : Files) (more events : List Event) (kind : Option CallKind)
    → stamp ≡ stamp_of number p → files ≡ with_names p.files call → more ≡ take 65 (events_of sizes stamp files call) → events ≡ p.events ++ more → kind ≡ kind_if (too_many events) TooManyEvents
    → kind ≡ events_full p.events (events_next sizes number p call)
kind_is sizes number p call stamp files more events kind stamp_is files_are more_is events_are is =
    let gives : List Event → Option CallKind = λ es. kind_if (too_many es) TooManyEvents in
    is ∙ ap gives events_are ∙ ap (λ (m : List Event). gives (p.events ++ m)) more_is
    ∙ ap (λ (b : Bool). kind_if b TooManyEvents) (enough sizes stamp files call p.events)
    ∙ ap (λ (s : Stamp). gives (p.events ++ events_of sizes s files call)) stamp_is
    ∙ ap (λ (f : Files). gives (p.events ++ events_of sizes (stamp_of number p) f call)) files_are

-- the events that are made are all of a call that is accepted
pub after_is : (sizes : Sizes) (number : ℕ) (p : Progress) (call : Call) (stamp : Stamp) (files : Files) (more events : List Event)
    → stamp ≡ stamp_of number p → files ≡ with_names p.files call → more ≡ take 65 (events_of sizes stamp files call) → events ≡ p.events ++ more
    → None ≡ events_full p.events (events_next sizes number p call) → events ≡ p.events ++ events_next sizes number p call
after_is sizes number p call stamp files more events stamp_is files_are more_is events_are accepted =
    events_are ∙ ap (λ (m : List Event). p.events ++ m)
    (more_is
    ∙ ap (λ (s : Stamp). take 65 (events_of sizes s files call)) stamp_is
    ∙ ap (λ (f : Files). take 65 (events_of sizes (stamp_of number p) f call)) files_are
    ∙ all_taken sizes (stamp_of number p) (with_names p.files call) call p.events (sym accepted))
