-- The transactions of a body never fall, and new ones are new, unless one is open.
use Rattle.std.proofs.Common.{◌≡◌, ℕ, ◌+◌, ◌-◌, ◌<◌, ◌≤◌, List, [], ◌∷◌, ◌++◌, length, get_or, Option, Some, None, IfSome, is_some, All, refl, ap, inl, inr, arith}
use Rattle.std.specs.Prelude.{unwrap_or}
use Rattle.std.specs.Option.{option_map_or}
use Rattle.std.specs.List.Sorted.{IsNonDecreasingBy}
use Rattle.std.proofs.lemmas.Bool.{cases_Bool}
use Rattle.std.proofs.lemmas.List.Elements.{All-nil, All-cons, All-tail, All-append, All-weaker}
use Rattle.std.proofs.lemmas.Option.{slice_get-get_or, slice_get_within, get_or_from_slice_get}
use Rattle.litmus_syntax.specs.declared.call.Call.{Call}
use Rattle.litmus_syntax.specs.declared.call.Call.TheVariants.{Mkdir, Create, Write, Append, Truncate, Link, Unlink, Rename, Attr, Fsync, FsyncDir, Sync, Mark, Begin, Commit}
use Rattle.fer_events.specs.declared.event.Event.{Event}
use Rattle.fer_events.specs.Orders.{IsEvent}
use Rattle.call_events.specs.declared.files.Files.{Files}
use Rattle.call_events.specs.declared.files.Progress.{Progress}
use Rattle.call_events.specs.declared.making.Sizes.{Sizes}
use Rattle.call_events.specs.declared.making.Stamp.{Stamp}
use Rattle.call_events.specs.Cutting.{Piece, cut_up}
use Rattle.call_events.specs.Found.{file_of, size_of}
use Rattle.call_events.specs.Changes.{are_one}
use Rattle.call_events.specs.CallEvents.{next_stamp, piece_event, piece_events, events_of}
use Rattle.call_events.specs.Running.{last_txn, open_after}
use Rattle.call_events.proofs.Runs.{IsNext, pieces_next, events_next_txns, last_within}
use Rattle.call_events.proofs.Fitting.{rise_append}
use Rattle.sync_parts.proofs.Joining.{AreApart}

same_rise : (f : Event → ℕ) (m : ℕ) (xs : List Event) → All (λ e. f e ≡ m) xs → IsNonDecreasingBy f xs
same_rise f m xs all = λ i j d l h. omega (arith, all i d (omega (arith, l, h)), all j d h)

one_rises : (stamp : Stamp) (e : Event) → e.txn ≡ stamp.txn → IsNonDecreasingBy (λ e. e.txn) (e ∷ [])
one_rises stamp e is = same_rise (λ e. e.txn) stamp.txn (e ∷ []) (All-cons (λ e. e.txn ≡ stamp.txn) e [] is (All-nil (λ e. e.txn ≡ stamp.txn)))

two_rise : (stamp : Stamp) (a b : Event) → a.txn ≡ stamp.txn → b.txn ≡ stamp.txn → IsNonDecreasingBy (λ e. e.txn) (a ∷ b ∷ [])
two_rise stamp a b first second =
    same_rise (λ e. e.txn) stamp.txn (a ∷ b ∷ []) (All-cons (λ e. e.txn ≡ stamp.txn) a (b ∷ []) first (All-cons (λ e. e.txn ≡ stamp.txn) b [] second (All-nil (λ e. e.txn ≡ stamp.txn))))

pub none_rise : IsNonDecreasingBy (λ (e : Event). e.txn) []
none_rise = λ i j d l h. absurd (omega (arith, h))

pieces_rise : (sizes : Sizes) (stamp : Stamp) (file : Option ℕ) (size : ℕ) (pieces : List Piece) → IsNonDecreasingBy (λ e. e.txn) (piece_events sizes stamp file size pieces)
pieces_rise sizes stamp file size [] = none_rise
pieces_rise sizes stamp file size (piece ∷ pieces) =
    let first : Event = piece_event sizes stamp file size piece in
    let rest : List Event = piece_events sizes (next_stamp stamp) file size pieces in
    rise_append (λ e. e.txn) stamp.txn (first ∷ []) rest (one_rises stamp first refl) (pieces_rise sizes (next_stamp stamp) file size pieces)
    (All-cons (λ e. e.txn ≤ stamp.txn) first [] (omega arith) (All-nil (λ e. e.txn ≤ stamp.txn)))
    (All-tail (λ e. stamp.txn ≤ e.txn) first rest (All-weaker (IsNext stamp (length (first ∷ rest))) (λ e. stamp.txn ≤ e.txn) (λ e h. h.1) (first ∷ rest) (pieces_next sizes stamp file size (piece ∷ pieces))))

rename_rises : (sizes : Sizes) (stamp : Stamp) (s : Files) (from to : List (List ℕ)) → IsNonDecreasingBy (λ e. e.txn) (events_of sizes stamp s (Rename from to))
rename_rises sizes stamp s from to = elim (cases_Bool (are_one s from to)) [ inl same ↦ rw same none_rise | inr two ↦ rw two (two_rise stamp _ _ refl refl) ]

events_rise : (sizes : Sizes) (stamp : Stamp) (s : Files) (call : Call) → IsNonDecreasingBy (λ e. e.txn) (events_of sizes stamp s call)
events_rise sizes stamp s (Mkdir path) = none_rise
events_rise sizes stamp s (Create path) = one_rises stamp _ refl
events_rise sizes stamp s (Write path at text) = pieces_rise sizes stamp (file_of s path) (size_of s (file_of s path)) (cut_up sizes at text)
events_rise sizes stamp s (Append path text) = pieces_rise sizes stamp (file_of s path) (size_of s (file_of s path)) (cut_up sizes (size_of s (file_of s path)) text)
events_rise sizes stamp s (Truncate path size) = one_rises stamp _ refl
events_rise sizes stamp s (Link from to) = one_rises stamp _ refl
events_rise sizes stamp s (Unlink path) = one_rises stamp _ refl
events_rise sizes stamp s (Rename from to) = rename_rises sizes stamp s from to
events_rise sizes stamp s (Attr path key value) = one_rises stamp _ refl
events_rise sizes stamp s (Fsync path) = one_rises stamp _ refl
events_rise sizes stamp s (FsyncDir path) = one_rises stamp _ refl
events_rise sizes stamp s Sync = one_rises stamp _ refl
events_rise sizes stamp s Begin = none_rise
events_rise sizes stamp s Commit = none_rise
events_rise sizes stamp s (Mark word) = one_rises stamp _ refl

pub below_last : (es : List Event) → IsNonDecreasingBy (λ e. e.txn) es → All (λ e. e.txn ≤ last_txn es) es
below_last es rises = λ k d h.
    let last : last_txn es ≡ (get_or es (length es - 1) d).txn = ap (λ (o : Option Event). option_map_or (λ e. e.txn) o 0) (slice_get-get_or es (length es - 1) d (omega (arith, h))) in
    omega (arith, last, rises k (length es - 1) d (omega (arith, h)) (omega (arith, h)))

-- the stamp of the next call's events, where this transaction is open, if one is
abbrev pub stamp_at : ℕ → List Event → Option ℕ → Stamp
stamp_at number es o = record { call = number; txn = unwrap_or o (last_txn es + 1); shared = is_some o }

abbrev pub progress : Files → List Event → Option ℕ → Progress
progress s es o = record { files = s; events = es; opened = o }

-- no event is of a later transaction than the open one
abbrev pub IsOpenLast : Option ℕ → List Event → Type 0
IsOpenLast o es = IfSome o (λ txn. All (λ e. e.txn ≤ txn) es)

last_below : (es : List Event) (o : Option ℕ) → IsOpenLast o es → last_txn es ≤ unwrap_or o (last_txn es + 1)
last_below es None opened = omega arith
last_below es (Some txn) opened = last_within txn es opened

pub next-rise : (sizes : Sizes) (number : ℕ) (es : List Event) (o : Option ℕ) (s : Files) (call : Call) → IsNonDecreasingBy (λ e. e.txn) es → IsOpenLast o es
    → IsNonDecreasingBy (λ e. e.txn) (es ++ events_of sizes (stamp_at number es o) s call)
next-rise sizes number es o s call rises opened =
    let stamp : Stamp = stamp_at number es o in
    let more : List Event = events_of sizes stamp s call in
    let last : last_txn es ≤ stamp.txn = last_below es o opened in
    rise_append (λ e. e.txn) (last_txn es) es more rises (events_rise sizes stamp s call) (below_last es rises)
    (All-weaker (IsNext stamp (length more)) (λ e. last_txn es ≤ e.txn) (λ e h. omega (arith, h.1, last)) more (events_next_txns sizes stamp s call))

still-last : (number : ℕ) (es more : List Event) (o : Option ℕ) → All (IsNext (stamp_at number es o) (length more)) more → IsOpenLast o es → IsOpenLast o (es ++ more)
still-last number es more None next opened = tt
still-last number es more (Some txn) next opened =
    All-append (λ e. e.txn ≤ txn) es more opened
    (All-weaker (IsNext (stamp_at number es (Some txn)) (length more)) (λ e. e.txn ≤ txn) (λ e h. let own = h.3 refl in omega (arith, own)) more next)

kept-last : (sizes : Sizes) (number : ℕ) (es : List Event) (o : Option ℕ) (s : Files) (call : Call) → IsOpenLast o es
    → IsOpenLast o (es ++ events_of sizes (stamp_at number es o) s call)
kept-last sizes number es o s call opened = still-last number es (events_of sizes (stamp_at number es o) s call) o (events_next_txns sizes (stamp_at number es o) s call) opened

pub next-last : (sizes : Sizes) (number : ℕ) (es : List Event) (o : Option ℕ) (f s : Files) (call : Call) → IsNonDecreasingBy (λ e. e.txn) es → IsOpenLast o es
    → IsOpenLast (open_after (progress f es o) call) (es ++ events_of sizes (stamp_at number es o) s call)
next-last sizes number es o f s Begin rises opened =
    All-append (λ e. e.txn ≤ last_txn es + 1) es [] (All-weaker (λ e. e.txn ≤ last_txn es) (λ e. e.txn ≤ last_txn es + 1) (λ e h. omega (arith, h)) es (below_last es rises))
    (All-nil (λ e. e.txn ≤ last_txn es + 1))
next-last sizes number es o f s Commit rises opened = tt
next-last sizes number es o f s call rises opened = kept-last sizes number es o s call opened

-- an event of the rest of a list, as the lists' facts say
pub event-has : (P : Event → Type 0) (es : List Event) (x : ℕ) (e : Event) → All P es → IsEvent es x e → P e
event-has P es x e all at = rw (← get_or_from_slice_get es (x - 1) e e at.1) (all (x - 1) e (slice_get_within es (x - 1) e at.1))

pub next-apart : (sizes : Sizes) (number : ℕ) (es : List Event) (s : Files) (call : Call) → IsNonDecreasingBy (λ e. e.txn) es
    → AreApart (λ e. e.txn) es (events_of sizes (stamp_at number es None) s call)
next-apart sizes number es s call rises x y e f at_e at_f same =
    let stamp : Stamp = stamp_at number es None in
    let more : List Event = events_of sizes stamp s call in
    let low = event-has (λ g. g.txn ≤ last_txn es) es x e (below_last es rises) at_e in
    let new = event-has (IsNext stamp (length more)) more y f (events_next_txns sizes stamp s call) at_f in
    omega (arith, low, new.1, same)

pub next-calls : (sizes : Sizes) (stamp : Stamp) (es : List Event) (s : Files) (call : Call) → All (λ e. e.call < stamp.call) es
    → All (λ e. e.call < stamp.call + 1) (es ++ events_of sizes stamp s call)
next-calls sizes stamp es s call below =
    let more : List Event = events_of sizes stamp s call in
    All-append (λ e. e.call < stamp.call + 1) es more (All-weaker (λ e. e.call < stamp.call) (λ e. e.call < stamp.call + 1) (λ e h. omega (arith, h)) es below)
    (All-weaker (IsNext stamp (length more)) (λ e. e.call < stamp.call + 1) (λ e h. omega (arith, h.0)) more (events_next_txns sizes stamp s call))

pub calls-apart : (sizes : Sizes) (stamp : Stamp) (es : List Event) (s : Files) (call : Call) → All (λ e. e.call < stamp.call) es
    → AreApart (λ e. e.call) es (events_of sizes stamp s call)
calls-apart sizes stamp es s call below x y e f at_e at_f same =
    let more : List Event = events_of sizes stamp s call in
    let low = event-has (λ g. g.call < stamp.call) es x e below at_e in
    let new = event-has (IsNext stamp (length more)) more y f (events_next_txns sizes stamp s call) at_f in
    omega (arith, low, new.0, same)
