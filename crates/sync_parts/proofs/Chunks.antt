-- The events of one call under two stamps: the same events, with other numbers.
use Rattle.std.proofs.Common.{◌≡◌, ◌⊎◌, ℕ, ◌+◌, ◌-◌, ◌<◌, ◌≤◌, inl, inr, List, [], ◌∷◌, length, cond, Bool, true, false, refl, sym, ◌∙◌, ap, arith}
use Rattle.std.specs.Prelude.{Option, Some, count_by, if◌then◌else◌}
use Rattle.std.specs.List.{AllZip}
use Rattle.std.proofs.lemmas.Bool.{cases_Bool, true≢false}
use Rattle.std.proofs.lemmas.List.Elements.{AllZip-get_or, length_all_zip}
use Rattle.std.proofs.lemmas.List.FromFn.{length-range_with_len, get_or-range_with_len}
use Rattle.std.proofs.lemmas.List.Sums.{sum_by-cons}
use Rattle.std.proofs.lemmas.Option.{slice_get_within, get_or_from_slice_get}
use Rattle.litmus_syntax.specs.declared.call.Call.{Call}
use Rattle.litmus_syntax.specs.declared.call.Call.TheVariants.{Mkdir, Create, Write, Append, Truncate, Link, Unlink, Rename, Attr, Fsync, FsyncDir, Sync, Mark, Begin, Commit}
use Rattle.litmus_syntax.specs.CallKinds.{is_sync}
use Rattle.fer_events.specs.declared.event.Event.{Event}
use Rattle.fer_events.specs.declared.event.Effect.TheVariants.{Nothing}
use Rattle.fer_events.specs.Orders.{numbers, IsEvent}
use Rattle.call_events.specs.declared.files.Files.{Files}
use Rattle.call_events.specs.declared.making.Stamp.{Stamp}
use Rattle.call_events.specs.Found.{file_of, size_of}
use Rattle.call_events.specs.Changes.{files_after, are_one}
use Rattle.call_events.specs.declared.making.Sizes.{Sizes}
use Rattle.call_events.specs.Cutting.{Piece, cut_up}
use Rattle.call_events.specs.CallEvents.{next_stamp, piece_events, events_of}
use Rattle.call_events.specs.declared.files.Progress.{Progress}
use Rattle.call_events.specs.Running.{open_after}
use Rattle.call_events.specs.Runs.{isnt_sync}
use Rattle.fer_events.specs.Lifting.{lifted}
use Rattle.sync_parts.specs.Parts.{stays}
use Rattle.sync_parts.specs.Without.{IsWithout, IsRenumbered}
use Rattle.sync_parts.proofs.Numbering.{stays-yes, numbers-contain}
use Rattle.sync_parts.proofs.Leaving.{event-number, has-event}
use Rattle.sync_parts.proofs.Joining.{lifted-past, Share, KeepsShared}

-- the same event under two stamps
abbrev pub IsShifted : Stamp → Stamp → Event → Event → Type 0
IsShifted few many e f = IsRenumbered e f × (e.txn + many.txn ≡ f.txn + few.txn) × (e.call + many.call ≡ f.call + few.call)

-- two stamps that have gone as far as each other from two others
record InStep (few many f m : Stamp) : Type 0 where
  txn : f.txn + many.txn ≡ m.txn + few.txn
  call : f.call + many.call ≡ m.call + few.call
  shared : f.shared ≡ m.shared

next-in_step : (few many f m : Stamp) → InStep few many f m → InStep few many (next_stamp f) (next_stamp m)
next-in_step few many f m so = on f.shared m.shared so.shared
  where
    on : (b c : Bool) → b ≡ c → InStep few many (if b then f else record f { txn = f.txn + 1 }) (if c then m else record m { txn = m.txn + 1 })
    on true true e = so
    on true false e = absurd (true≢false e)
    on false true e = absurd (true≢false (sym e))
    on false false e = record { txn = omega (arith, so.txn); call = so.call; shared = so.shared }

pieces-shifted : (sizes : Sizes) (few many f m : Stamp) (file : Option ℕ) (size : ℕ) (cuts : List Piece) → InStep few many f m
    → AllZip (IsShifted few many) (piece_events sizes f file size cuts) (piece_events sizes m file size cuts)
pieces-shifted sizes few many f m file size [] so = tt
pieces-shifted sizes few many f m file size (piece ∷ cuts) so =
    ((refl, so.txn, so.call), pieces-shifted sizes few many (next_stamp f) (next_stamp m) file size cuts (next-in_step few many f m so))

at-once : (few many : Stamp) → few.shared ≡ many.shared → InStep few many few many
at-once few many same = record { txn = omega arith; call = omega arith; shared = same }

rename-shifted : (sizes : Sizes) (few many : Stamp) (s : Files) (from to : List (List ℕ))
    → AllZip (IsShifted few many) (events_of sizes few s (Rename from to)) (events_of sizes many s (Rename from to))
rename-shifted sizes few many s from to = elim (cases_Bool (are_one s from to)) [
  | inl same ↦ rw same tt
  | inr two ↦ rw two ((refl, omega arith, omega arith), ((refl, omega arith, omega arith), tt))
]

pub events-shifted : (sizes : Sizes) (few many : Stamp) (s : Files) (call : Call) → few.shared ≡ many.shared
    → AllZip (IsShifted few many) (events_of sizes few s call) (events_of sizes many s call)
events-shifted sizes few many s (Mkdir path) same = tt
events-shifted sizes few many s (Create path) same = ((refl, omega arith, omega arith), tt)
events-shifted sizes few many s (Write path at text) same =
    pieces-shifted sizes few many few many (file_of s path) (size_of s (file_of s path)) (cut_up sizes at text) (at-once few many same)
events-shifted sizes few many s (Append path text) same =
    pieces-shifted sizes few many few many (file_of s path) (size_of s (file_of s path)) (cut_up sizes (size_of s (file_of s path)) text) (at-once few many same)
events-shifted sizes few many s (Truncate path size) same = ((refl, omega arith, omega arith), tt)
events-shifted sizes few many s (Link from to) same = ((refl, omega arith, omega arith), tt)
events-shifted sizes few many s (Unlink path) same = ((refl, omega arith, omega arith), tt)
events-shifted sizes few many s (Rename from to) same = rename-shifted sizes few many s from to
events-shifted sizes few many s (Attr path key value) same = ((refl, omega arith, omega arith), tt)
events-shifted sizes few many s (Fsync path) same = ((refl, omega arith, omega arith), tt)
events-shifted sizes few many s (FsyncDir path) same = ((refl, omega arith, omega arith), tt)
events-shifted sizes few many s Sync same = ((refl, omega arith, omega arith), tt)
events-shifted sizes few many s (Mark word) same = ((refl, omega arith, omega arith), tt)
events-shifted sizes few many s Begin same = tt
events-shifted sizes few many s Commit same = tt

module _ (few many : Stamp) (small large : List Event) (zip : AllZip (IsShifted few many) small large) where
  zip-read : (a : ℕ) (e f : Event) → IsEvent small a e → IsEvent large a f → IsShifted few many e f
  zip-read a e f at_e at_f =
      let r = AllZip-get_or (IsShifted few many) small large (a - 1) e f zip (slice_get_within small (a - 1) e at_e.1) in
      let first = get_or_from_slice_get small (a - 1) e e at_e.1 in
      let second = get_or_from_slice_get large (a - 1) f f at_f.1 in
      rw (first, second) at r

  pub as-long : length small ≡ length large
  as-long = length_all_zip (IsShifted few many) small large zip

  itself : (a : ℕ) → 0 < a → a ≤ length small → lifted (numbers (length small)) a ≡ a
  itself a pos h = get_or-range_with_len 1 (length small) (a - 1) 0 (omega arith) ∙ omega arith

  pub all-stay : (x : ℕ) (f : Event) → IsEvent large x f → stays (numbers (length small)) x ≡ true
  all-stay x f at = let range = event-number large x f at in stays-yes (numbers (length small)) x (numbers-contain (length small) x range.0 (omega (arith, range.1, as-long)))

  counted : (a : ℕ) (f : Event) → 0 < a → IsEvent large (lifted (numbers (length small)) a) f → a ≤ length small
  counted a f pos at = split (side a (length small))
    where
      side : (x y : ℕ) → (x ≤ y) ⊎ (y < x)
      side x y = grind arith

      split : (a ≤ length small) ⊎ (length small < a) → a ≤ length small
      split (inl h) = h
      split (inr h) = absurd (let none = lifted-past (numbers (length small)) a (omega (arith, length-range_with_len 1 (length small))) in let low = at.0 in omega arith)

  chunk-up : (of : Event → ℕ) (p q : ℕ) (shift : (e f : Event) → IsShifted few many e f → of e + q ≡ of f + p) (a b : ℕ) → Share of small a b → Share of large (lifted (numbers (length small)) a) (lifted (numbers (length small)) b)
  chunk-up of p q shift a b (e, f, at_a, at_b, same) =
      let ra = event-number small a e at_a in
      let rb = event-number small b f at_b in
      let x = has-event large a ra.0 (omega (arith, ra.1, as-long)) in
      let y = has-event large b rb.0 (omega (arith, rb.1, as-long)) in
      let sx = zip-read a e x.0 at_a x.1 in
      let sy = zip-read b f y.0 at_b y.1 in
      rw (itself a ra.0 ra.1, itself b rb.0 rb.1) (x.0, y.0, x.1, y.1, omega (arith, shift e x.0 sx, shift f y.0 sy, same))

  chunk-down : (of : Event → ℕ) (p q : ℕ) (shift : (e f : Event) → IsShifted few many e f → of e + q ≡ of f + p) (a b : ℕ) → 0 < a → 0 < b → Share of large (lifted (numbers (length small)) a) (lifted (numbers (length small)) b) → Share of small a b
  chunk-down of p q shift a b pa pb (x, y, at_x, at_y, same) =
      let ha = counted a x pa at_x in
      let hb = counted b y pb at_y in
      let here_x : IsEvent large a x = rw (itself a pa ha) at at_x in
      let here_y : IsEvent large b y = rw (itself b pb hb) at at_y in
      let e = has-event small a pa ha in
      let f = has-event small b pb hb in
      let sx = zip-read a e.0 x e.1 here_x in
      let sy = zip-read b f.0 y f.1 here_y in
      (e.0, f.0, e.1, f.1, omega (arith, shift e.0 x sx, shift f.0 y sy, same))

  chunk-shared : (of : Event → ℕ) (p q : ℕ) (shift : (e f : Event) → IsShifted few many e f → of e + q ≡ of f + p) → KeepsShared of (numbers (length small)) large small
  chunk-shared of p q shift = λ a b pa pb. (chunk-up of p q shift a b, chunk-down of p q shift a b pa pb)

  pub chunk-calls : KeepsShared (λ e. e.call) (numbers (length small)) large small
  chunk-calls = chunk-shared (λ e. e.call) few.call many.call (λ e f s. s.2)

  -- the events of a call under one stamp are those under the other, none left out
  pub chunk-without : IsWithout (numbers (length small)) large small
  chunk-without = record {
    ascending = λ i j d l h.
        let long = length-range_with_len 1 (length small) in
        omega (arith, l, get_or-range_with_len 1 (length small) i d (omega (arith, l, h, long)), get_or-range_with_len 1 (length small) j d (omega (arith, h, long)));
    within = λ k d h.
        let at = get_or-range_with_len 1 (length small) k d (omega (arith, h, length-range_with_len 1 (length small))) in
        (omega (arith, at), omega (arith, at, h, length-range_with_len 1 (length small), as-long));
    each = sym (length-range_with_len 1 (length small));
    alike = λ a e f at_e at_f. let range = event-number small a e at_e in (zip-read a e f at_e (rw (itself a range.0 range.1) at at_f)).0;
    together = chunk-shared (λ e. e.txn) few.txn many.txn (λ e f s. s.1);
    idle = λ x f at out. absurd (let bad : true ≡ false = sym (all-stay x f at) ∙ out in cc);
    alone = λ x y same out. absurd (let bad : true ≡ false = sym (all-stay x same.0 same.2) ∙ out in cc);
  }

pub zip-count : (few many : Stamp) (xs ys : List Event) → AllZip (IsShifted few many) xs ys → count_by isnt_sync xs ≡ count_by isnt_sync ys
zip-count few many [] [] zip = refl
zip-count few many [] (y ∷ ys) zip = absurd zip
zip-count few many (x ∷ xs) [] zip = absurd zip
zip-count few many (x ∷ xs) (y ∷ ys) (here, zip) =
    let same : isnt_sync x ≡ isnt_sync y = ap (λ (e : Event). isnt_sync e) here.0 in
    sum_by-cons (λ (e : Event). cond {A = ℕ} (isnt_sync e) 1 0) x xs
    ∙ ap (λ (b : Bool). cond {A = ℕ} b 1 0 + count_by isnt_sync xs) same
    ∙ ap (λ n. cond {A = ℕ} (isnt_sync y) 1 0 + n) (zip-count few many xs ys zip)
    ∙ sym (sum_by-cons (λ (e : Event). cond {A = ℕ} (isnt_sync e) 1 0) y ys)

pub none-shared : (of : Event → ℕ) (large : List Event) → KeepsShared of [] large []
none-shared of large = λ a b pa pb. (λ t. absurd (let bad = t.2.1 in cc), λ t. absurd (let low = t.2.0 in omega arith))

-- a sync alone, left out
pub one-out : (e : Event) → e.effect ≡ Nothing → IsWithout [] (e ∷ []) []
one-out e idle = record {
  ascending = λ i j d l h. absurd (omega arith);
  within = λ k d h. absurd (omega arith);
  each = refl;
  alike = λ a x f at_x at_f. absurd (nothing a x at_x);
  together = λ a b pa pb. (λ t. absurd (nothing a t.0 t.2), λ t. absurd (let low = t.2.0 in omega arith));
  idle = λ x f at out. (let same : e ≡ f = first x f at in rw (← same) idle);
  alone = λ x y t out. (let low = event-number (e ∷ []) x t.0 t.2 in let high = event-number (e ∷ []) y t.1 t.3 in omega (arith, low.0, low.1, high.0, high.1));
}
  where
    nothing : (a : ℕ) (x : Event) → IsEvent [] a x → ⊥
    nothing a x at = let bad = at.1 in cc

    first : (x : ℕ) (f : Event) → IsEvent (e ∷ []) x f → e ≡ f
    first x f at =
        let range = event-number (e ∷ []) x f at in
        let start : x - 1 ≡ 0 = omega (arith, range.0, range.1) in
        let is : Some e ≡ Some f = rw start at at.1 in cc

-- a sync leaves the files, and makes one event that does nothing
pub sync-files : (s : Files) (call : Call) → is_sync call ≡ true → files_after s call ≡ s
sync-files s (Mkdir path) h = cc
sync-files s (Create path) h = cc
sync-files s (Write path at text) h = cc
sync-files s (Append path text) h = cc
sync-files s (Truncate path size) h = cc
sync-files s (Link from to) h = cc
sync-files s (Unlink path) h = cc
sync-files s (Rename from to) h = cc
sync-files s (Attr path key value) h = cc
sync-files s (Fsync path) h = refl
sync-files s (FsyncDir path) h = refl
sync-files s Sync h = refl
sync-files s (Mark word) h = cc
sync-files s Begin h = cc
sync-files s Commit h = cc

abbrev pub IsOneIdle : List Event → Type 0
IsOneIdle es = (e : Event) × (es ≡ e ∷ []) × (e.effect ≡ Nothing)

pub sync-event : (sizes : Sizes) (stamp : Stamp) (s : Files) (call : Call) → is_sync call ≡ true → IsOneIdle (events_of sizes stamp s call)
sync-event sizes stamp s (Mkdir path) h = absurd (let bad : false ≡ true = h in cc)
sync-event sizes stamp s (Create path) h = absurd (let bad : false ≡ true = h in cc)
sync-event sizes stamp s (Write path at text) h = absurd (let bad : false ≡ true = h in cc)
sync-event sizes stamp s (Append path text) h = absurd (let bad : false ≡ true = h in cc)
sync-event sizes stamp s (Truncate path size) h = absurd (let bad : false ≡ true = h in cc)
sync-event sizes stamp s (Link from to) h = absurd (let bad : false ≡ true = h in cc)
sync-event sizes stamp s (Unlink path) h = absurd (let bad : false ≡ true = h in cc)
sync-event sizes stamp s (Rename from to) h = absurd (let bad : false ≡ true = h in cc)
sync-event sizes stamp s (Attr path key value) h = absurd (let bad : false ≡ true = h in cc)
sync-event sizes stamp s (Fsync path) h = (_, refl, refl)
sync-event sizes stamp s (FsyncDir path) h = (_, refl, refl)
sync-event sizes stamp s Sync h = (_, refl, refl)
sync-event sizes stamp s (Mark word) h = absurd (let bad : false ≡ true = h in cc)
sync-event sizes stamp s Begin h = absurd (let bad : false ≡ true = h in cc)
sync-event sizes stamp s Commit h = absurd (let bad : false ≡ true = h in cc)

-- a sync opens no transaction and closes none
pub sync-open : (p : Progress) (call : Call) → is_sync call ≡ true → open_after p call ≡ p.opened
sync-open p (Fsync path) h = refl
sync-open p (FsyncDir path) h = refl
sync-open p Sync h = refl
sync-open p Begin h = cc
sync-open p Commit h = cc
sync-open p call h = refl
