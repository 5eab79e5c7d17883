-- Behind a crash that keeps what stands around each sync, no mark was seen whose file isn't there.
use Rattle.std.proofs.Common.{◌≡◌, ◌⊎◌, inl, inr, ℕ, suc, ◌-◌, ◌*◌, ◌%◌, ◌<◌, ◌≤◌, ◌^◌, true, List, length, replicate, Option, Some, None, is_some, slice_get, Contains, IsPermutation, sym, ◌∙◌, ap, subst, arith, length-append}
use Rattle.std.specs.Prelude.{option_and_then}
use Rattle.std.proofs.lemmas.Bool.{true≢false}
use Rattle.std.proofs.lemmas.List.{length-replicate}
use Rattle.std.proofs.lemmas.List.Quantifiers.{position-Some}
use Rattle.std.proofs.lemmas.Option.{slice_get_cases, slice_get_within}
use Rattle.litmus_syntax.specs.declared.call.Call.{Call}
use Rattle.litmus_syntax.specs.declared.call.Call.TheVariants.{Create, Sync}
use Rattle.litmus_syntax.specs.declared.call.Step.{Step}
use Rattle.fer_events.specs.declared.event.Event.{Event}
use Rattle.fer_events.specs.declared.event.Kind.TheVariants as kind
use Rattle.fer_events.specs.declared.event.Effect.TheVariants.{See, Nothing}
use Rattle.fer_events.specs.declared.event.Crash.{Crash}
use Rattle.fer_events.specs.declared.tables.SlotName.{SlotName}
use Rattle.fer_events.specs.Orders.{numbers, StandsBefore, IsEvent, before_cut}
use Rattle.fer_events.specs.Paths.{entry_number, same_entry, path_entry}
use Rattle.fer_events.specs.States.{State, start_state, after_crash}
use Rattle.fer_events.specs.Tables.{Trace}
use Rattle.fer_events.specs.Truth.{item_at, text_number, held_file}
use Rattle.call_events.specs.declared.files.Files.{Files}
use Rattle.call_events.specs.Resolved.{trace_of}
use Rattle.model_library.specs.Generated.{numbered, path_of, generated_call, generated_calls}
use Rattle.generated_repairs.proofs.Orders.{before_too, from_one}
use Rattle.generated_repairs.proofs.Effects.{Holds, IsSlot, put_holds, seen_by, none_seen}
use Rattle.generated_repairs.proofs.Questions.{IsLost}
use Rattle.generated_repairs.proofs.Doubling.{synced, double, double_is, halves, length-synced, call_at, sync_at}
use Rattle.generated_repairs.proofs.Bodies.{is_create, length-generated_calls, call_at_place}
use Rattle.generated_repairs.proofs.Calls.{Tells, IsDone}
use Rattle.generated_repairs.proofs.Walking.{AreDone, call_of_event, event_of_call, names_kept}
use Rattle.generated_repairs.proofs.Marks.{one_mark, sees_own, seen_number}

-- what stands on both sides of each sync stays there
abbrev pub KeepsAround : List Event → List ℕ → Type 0
KeepsAround events order = (a b : ℕ) (e f : Event) → a < b → IsEvent events a e → IsEvent events b f → ((e.kind ≡ kind.Sync) ⊎ (f.kind ≡ kind.Sync)) → StandsBefore order a b

-- at each place within a list stands an item
there : {X : Type 0} (xs : List X) (i : ℕ) → i < length xs → (x : X) × (slice_get xs i ≡ Some x)
there xs i within = elim ((slice_get_cases xs i).1) [
  | inl found ↦ (found.0, found.2)
  | inr past ↦ absurd (omega (arith, past.0, within))
]

-- the number of a name is one of the table
slot_within : (slots : List SlotName) (o : Option SlotName) (k : ℕ) → option_and_then (entry_number slots) o ≡ Some k → k < length slots
slot_within slots None k h = absurd (let bad : None ≡ Some k = h in cc)
slot_within slots (Some e) k h = (position-Some (λ slot. same_entry slot e) slots k e h).0

-- the event at place i, counted from 0, has number i + 1
event_number : (events : List Event) (i : ℕ) (e : Event) → slice_get events i ≡ Some e → IsEvent events (suc i) e
event_number events i e h = let back : suc i - 1 ≡ i = omega arith in (omega arith, ap (slice_get events) back ∙ h)

-- the run of a generated body with a sync behind each call
module _ (setup files : Files) (events : List Event) (words : List ℕ) (few : length words < 2 ^ 32) (done : AreDone files (synced (generated_calls 1 words)) events) where
  abbrev run : Trace
  run = trace_of setup files events

  abbrev body : List Step
  body = generated_calls 1 words

  -- the event of a call
  record CallEvent (j : ℕ) : Type 0 where
    word : ℕ
    event : Event
    at : slice_get events (double j) ≡ Some event
    its : IsDone files (generated_call (suc j) word) event

  call_event : (j : ℕ) → j < length words → CallEvent j
  call_event j within =
      let found = there body j (omega (arith, within, length-generated_calls 1 words)) in
      let call = call_at_place words j found.0 found.1 in
      let event = event_of_call files (synced body) events (double j) found.0 done (call_at body j ∙ found.1) in
      record { word = call.0; event = event.0; at = event.1; its = subst (λ (c : Call). IsDone files c event.0) call.1 event.2 }

  -- the event of the sync behind it
  record SyncEvent (j : ℕ) : Type 0 where
    event : Event
    at : slice_get events (suc (double j)) ≡ Some event
    is : event.kind ≡ kind.Sync

  sync_event : (j : ℕ) → j < length words → SyncEvent j
  sync_event j within =
      let found = there (synced body) (suc (double j)) (omega (arith, within, length-synced body, length-generated_calls 1 words, double_is j, double_is (length body))) in
      let event = event_of_call files (synced body) events (suc (double j)) found.0 done found.1 in
      let tells : Tells files Sync event.0 = subst (λ (c : Call). Tells files c event.0) (sync_at body j found.0 found.1) event.2.tells in
      record { event = event.0; at = event.1; is = tells.0 }

  -- the event at a place is that of the mark whose word has this number
  record IsMarked (x w : ℕ) : Type 0 where
    place : ℕ
    at : x ≡ double place
    within : place < length words
    word : text_number files.words (numbered 109 (suc place)) ≡ Some w

  -- only such an event sees the word
  marked : (x w : ℕ) (e : Event) → slice_get events x ≡ Some e → e.effect ≡ See w → IsMarked x w
  marked x w e at sees =
      let call = call_of_event files (synced body) events x e done at in
      let half = halves x in
      elim half.1 [
        | inl even ↦
            let here : slice_get body half.0 ≡ Some call.0 = sym (call_at body half.0) ∙ ap (slice_get (synced body)) (sym even) ∙ call.1 in
            let within : half.0 < length body = slice_get_within body half.0 call.0 here in
            let own = call_at_place words half.0 call.0 here in
            let tells : Tells files (generated_call (suc half.0) own.0) e = subst (λ (c : Call). Tells files c e) own.1 call.2.tells in
            record { place = half.0; at = even; within = omega (arith, within, length-generated_calls 1 words); word = sees_own files (suc half.0) own.0 w e tells sees }
        | inr odd ↦
            let here : slice_get (synced body) (suc (double half.0)) ≡ Some call.0 = ap (slice_get (synced body)) (sym odd) ∙ call.1 in
            let tells : Tells files Sync e = subst (λ (c : Call). Tells files c e) (sync_at body half.0 call.0 here) call.2.tells in
            absurd (let bad : Nothing ≡ See w = sym tells.1 ∙ sees in cc)
      ]

  -- each slot is there before all events
  start_slot : (k : ℕ) → k < length files.slots → IsSlot run.start.slots k
  start_slot k within =
      there run.start.slots k
      (omega (arith, within, length-append {A = Option ℕ} setup.held (replicate (length files.slots - length setup.held) None), length-replicate {A = Option ℕ} (length files.slots - length setup.held) None))

  -- a crash that keeps what stands around each sync
  module _ (crash : Crash) (permutes : IsPermutation (numbers (length events)) crash.order) (keeps : KeepsAround events crash.order) where
    -- what it leaves
    abbrev left : State
    left = after_crash run crash

    -- where the event of a call stands before the cut, so does that of each call before it: a sync stands between them
    earlier : (i j : ℕ) → i < j → j < length words → Contains (before_cut crash) (suc (double j)) → Contains (before_cut crash) (suc (double i))
    earlier i j before within early =
        let made = call_event i (omega (arith, before, within)) in
        let sync = sync_event i (omega (arith, before, within)) in
        let mark = call_event j within in
        let made_is = event_number events (double i) made.event made.at in
        let sync_is = event_number events (suc (double i)) sync.event sync.at in
        let mark_is = event_number events (double j) mark.event mark.at in
        let first : StandsBefore crash.order (suc (double i)) (suc (suc (double i))) =
        keeps (suc (double i)) (suc (suc (double i))) made.event sync.event (omega arith) made_is sync_is (inr sync.is) in
        let second : StandsBefore crash.order (suc (suc (double i))) (suc (double j)) =
        keeps (suc (suc (double i))) (suc (double j)) sync.event mark.event (omega (arith, before, double_is i, double_is j)) sync_is mark_is (inl sync.is) in
        before_too (length events) crash.order crash.cut (suc (double i)) (suc (suc (double i))) permutes first
        (before_too (length events) crash.order crash.cut (suc (suc (double i))) (suc (double j)) permutes second early)

    -- where its event stands before the cut, the file of a call is there
    there_then : (j : ℕ) → j < length words → suc j % 8 ≡ 1 → Contains (before_cut crash) (suc (double j)) → is_some (held_file run left (path_of (numbered 110 (suc j)))) ≡ true
    there_then j within first early =
        let path : List (List ℕ) = path_of (numbered 110 (suc j)) in
        let made = call_event j within in
        let tells : Tells files (Create path) made.event = subst (λ (c : Call). Tells files c made.event) (is_create (suc j) made.word first) made.its.tells in
        let slot : IsSlot run.start.slots tells.0 = start_slot tells.0 (slot_within files.slots (path_entry files.dirs path) tells.0 tells.2) in
        let holds : Holds left.slots tells.0 =
        put_holds events (before_cut crash) (start_state run) (suc (double j)) tells.0 made.event (names_kept files (synced body) events done) (event_number events (double j) made.event made.at).1 tells.1 tells.3 early slot in
        ap (λ (o : Option ℕ). is_some (option_and_then (λ h. h) (item_at left.slots o))) tells.2
        ∙ ap (λ (o : Option (Option ℕ)). is_some (option_and_then (λ h. h) o)) holds.1

    -- no mark is lost
    pub never_lost : (k : ℕ) → 1 ≤ k → 8 * k ≤ length words → IsLost run left k → ⊥
    never_lost k some within lost =
        let word = seen_number left.seen (text_number files.words (numbered 109 (8 * k))) lost.seen in
        elim (seen_by events (before_cut crash) (start_state run) word.0 word.2) [
          | inr first ↦ none_seen (length files.words) word.0 first
          | inl (a, e, early, at, sees) ↦
              let mark = marked (a - 1) word.0 e at sees in
              let own : suc mark.place ≡ 8 * k = one_mark files.words (suc mark.place) (8 * k) word.0 (omega (arith, mark.within, few)) (omega (arith, within, few)) mark.word word.1 in
              let number : a ≡ suc (double mark.place) = omega (arith, mark.at, from_one (length events) crash.order crash.cut a permutes early) in
              let marks : Contains (before_cut crash) (suc (double mark.place)) = subst (λ (n : ℕ). Contains (before_cut crash) n) number early in
              let file : ℕ = 8 * k - 8 in
              let makes : Contains (before_cut crash) (suc (double file)) = earlier file mark.place (omega (arith, own, some)) mark.within marks in
              let present = there_then file (omega (arith, within, some)) (omega (arith, some)) makes in
              let same : suc file ≡ 8 * k - 7 = omega (arith, some) in
              true≢false (sym present ∙ ap (λ (n : ℕ). is_some (held_file run left (path_of (numbered 110 n)))) same ∙ lost.gone)
        ]
