-- After any events a cell holds what its last writer among them gave it.
use Rattle.std.proofs.Common.{◌≡◌, ℕ, zero, suc, ◌+◌, ◌-◌, ◌<◌, ◌≤◌, Bool, true, false, cond, List, [], ◌∷◌, length, map, replicate, Option, Some, None, is_some, slice_get, unwrap_or, option_and_then, All, refl, sym, ◌∙◌, ap, subst, arith, length-append}
use Rattle.std.specs.List.{range_with_len}
use Rattle.std.specs.Option.{option_or, IfSome}
use Rattle.std.proofs.lemmas.List.{length-map, length-replicate}
use Rattle.std.proofs.lemmas.List.FromFn.{length-map-range_with_len, get_or-map-range_with_len}
use Rattle.std.proofs.lemmas.Option.{slice_get_within, get_or_from_slice_get, unwrap_or-slice_get}
use Rattle.fer_events.specs.declared.event.Event.{Event}
use Rattle.fer_events.specs.declared.event.Effect.{Effect}
use Rattle.fer_events.specs.declared.event.Effect.TheVariants.{Bytes, Grow, Cut, SetAttr, PutName, ClearName, See, Nothing}
use Rattle.fer_events.specs.States.{State, at_place, written, cleared, padded, value_set, start_state, effected, after_event, after_option, after_numbers}
use Rattle.fer_events.specs.Tables.{Trace, IsTrace, IsEventOf, file_count}
use Rattle.value_coding.specs.declared.cell.Cell.{Cell}
use Rattle.value_coding.specs.declared.cell.Cell.TheVariants.{SlotOf, SizeOf, AttrOf, Segment}
use Rattle.value_coding.specs.Cells.{Value, IsThere, cell_value}
use Rattle.value_coding.specs.Writers.{carries, given, given_by, is_writer, value_by}
use Rattle.value_coding.specs.LastWriter.{last_where, last_writer}
use Rattle.value_coding.specs.Undivided.{IsUndivided}
use Rattle.value_coding.proofs.Places.{item-here, item-apart, length-at_place}
use Rattle.value_coding.proofs.Bytes.{length-written, length-cleared}
use Rattle.value_coding.proofs.Steps.{HasCell, Within, within, KeepsWhole, step}

-- an event leaves as many places as there were
slots-kept : (s : State) (slot file : Option ℕ) (effect : Effect) → length (effected s slot file effect).slots ≡ length s.slots
slots-kept s slot file (Bytes at text) = refl
slots-kept s slot file (Grow at text size) = refl
slots-kept s slot file (Cut size) = refl
slots-kept s slot file (SetAttr key value) = refl
slots-kept s slot file PutName = length-at_place slot (λ _. file) s.slots
slots-kept s slot file ClearName = length-at_place slot (λ _. None) s.slots
slots-kept s slot file (See word) = refl
slots-kept s slot file Nothing = refl

pub sizes-kept : (s : State) (slot file : Option ℕ) (effect : Effect) → length (effected s slot file effect).sizes ≡ length s.sizes
sizes-kept s slot file (Bytes at text) = refl
sizes-kept s slot file (Grow at text size) = length-at_place file (λ _. size) s.sizes
sizes-kept s slot file (Cut size) = length-at_place file (λ _. size) s.sizes
sizes-kept s slot file (SetAttr key value) = refl
sizes-kept s slot file PutName = refl
sizes-kept s slot file ClearName = refl
sizes-kept s slot file (See word) = refl
sizes-kept s slot file Nothing = refl

-- a list among others keeps its length where the change keeps it
row-kept :
    {X : Type 0} (place : Option ℕ) (change : List X → List X) (xs : List (List X)) (i : ℕ) (b : Bool)
    → carries place i ≡ b → i < length xs
    → length (change (unwrap_or (slice_get xs i) [])) ≡ length (unwrap_or (slice_get xs i) [])
    → length (unwrap_or (slice_get (at_place place change xs) i) []) ≡ length (unwrap_or (slice_get xs i) [])
row-kept place change xs i true e h keeps = ap length (item-here place change xs i [] h e) ∙ keeps
row-kept place change xs i false e h keeps = ap length (item-apart place change xs i [] e)

attrs-kept :
    (s : State) (f key : ℕ) (slot file : Option ℕ) (effect : Effect) → HasCell s (AttrOf f key)
    → HasCell (effected s slot file effect) (AttrOf f key)
attrs-kept s f key slot file (Bytes at text) h = h
attrs-kept s f key slot file (Grow at text size) h = h
attrs-kept s f key slot file (Cut size) h = h
attrs-kept s f key slot file (SetAttr set value) h =
    let change : List (Option ℕ) → List (Option ℕ) = at_place file (λ _. Some value) in
    let count : length (at_place (Some set) change s.attrs) ≡ length s.attrs = length-at_place (Some set) change s.attrs in
    let row = row-kept (Some set) change s.attrs key (carries (Some set) key) refl h.0 (length-at_place file (λ _. Some value) (unwrap_or (slice_get s.attrs key) [])) in
    (omega (arith, h.0), omega (arith, h.1))
attrs-kept s f key slot file PutName h = h
attrs-kept s f key slot file ClearName h = h
attrs-kept s f key slot file (See word) h = h
attrs-kept s f key slot file Nothing h = h

written-kept :
    (s : State) (f at len start : ℕ) (text : List ℕ) (file : Option ℕ) → HasCell s (Segment f at len) → start + length text ≤ 65536
    → (f < length (at_place file (written start text) s.bytes)) × (length (unwrap_or (slice_get (at_place file (written start text) s.bytes) f) []) ≡ 65536) × (at + len ≤ 65536)
written-kept s f at len start text file h fits =
    let count : length (at_place file (written start text) s.bytes) ≡ length s.bytes = length-at_place file (written start text) s.bytes in
    let row = row-kept file (written start text) s.bytes f (carries file f) refl h.0 (length-written at len start text (unwrap_or (slice_get s.bytes f) []) (omega (arith, h.1))) in
    (omega (arith, h.0), row ∙ h.1, h.2)

bytes-kept :
    (s : State) (f at len : ℕ) (slot file : Option ℕ) (effect : Effect) → HasCell s (Segment f at len) → Within effect
    → HasCell (effected s slot file effect) (Segment f at len)
bytes-kept s f at len slot file (Bytes start text) h fits = written-kept s f at len start text file h fits
bytes-kept s f at len slot file (Grow start text size) h fits = written-kept s f at len start text file h fits
bytes-kept s f at len slot file (Cut size) h fits =
    let count : length (at_place file (cleared size) s.bytes) ≡ length s.bytes = length-at_place file (cleared size) s.bytes in
    let row = row-kept file (cleared size) s.bytes f (carries file f) refl h.0 (length-cleared at len size (unwrap_or (slice_get s.bytes f) []) (omega (arith, h.1))) in
    (omega (arith, h.0), row ∙ h.1, h.2)
bytes-kept s f at len slot file (SetAttr key value) h fits = h
bytes-kept s f at len slot file PutName h fits = h
bytes-kept s f at len slot file ClearName h fits = h
bytes-kept s f at len slot file (See word) h fits = h
bytes-kept s f at len slot file Nothing h fits = h

pub cell-kept : (s : State) (cell : Cell) (e : Event) → HasCell s cell → Within e.effect → HasCell (after_event s e) cell
cell-kept s (SlotOf slot) e h fits = omega (arith, h, slots-kept s e.slot e.file e.effect)
cell-kept s (SizeOf file) e h fits = omega (arith, h, sizes-kept s e.slot e.file e.effect)
cell-kept s (AttrOf file key) e h fits = attrs-kept s file key e.slot e.file e.effect h
cell-kept s (Segment file at len) e h fits = bytes-kept s file at len e.slot e.file e.effect h fits

-- the start has each cell of the trace
padded-length : (content : List ℕ) → length content ≤ 65536 → length (padded content) ≡ 65536
unfolding padded
padded-length content h = omega (arith, length-append content (replicate (65536 - length content) 0), length-replicate {A = ℕ} (65536 - length content) 0)

padded-row :
    (contents : List (List ℕ)) (f : ℕ) → All (λ content. length content ≤ 65536) contents → f < length contents
    → length (unwrap_or (slice_get (map padded contents) f) []) ≡ 65536
padded-row [] f fit h = absurd (omega arith)
padded-row (content ∷ contents) zero fit h = padded-length content (fit 0 content (omega arith))
padded-row (content ∷ contents) (suc f) fit h = padded-row contents f (λ k d l. fit (suc k) d (omega arith)) (omega arith)

pub cell-at_start : (t : Trace) (cell : Cell) → IsTrace t → IsThere t cell → HasCell (start_state t) cell
cell-at_start t (SlotOf slot) rules there = omega (arith, there, rules.slots_held)
cell-at_start t (SizeOf file) rules there = omega (arith, there, length-map t.start.contents (λ (content : List ℕ). length content))
cell-at_start t (AttrOf file key) rules there =
    let row : ℕ → List (Option ℕ) = λ k. map (λ f. value_set t.start.attrs f k) (range_with_len 0 (file_count t)) in
    let read = unwrap_or-slice_get (map row (range_with_len 0 (length t.keys))) key [] ∙ get_or-map-range_with_len row 0 (length t.keys) key key [] there.1 (omega arith) in (
      omega (arith, there.1, length-map-range_with_len row 0 (length t.keys)),
      omega (arith, there.0, ap length read, length-map-range_with_len (λ f. value_set t.start.attrs f key) 0 (file_count t)),
    )
cell-at_start t (Segment file at len) rules there = (
  omega (arith, there.0, length-map t.start.contents padded),
  padded-row t.start.contents file rules.contents_fit there.0,
  there.1,
)

-- what is true of all is true of the item at a place
pub at-place : {X : Type 0} (P : X → Type 0) (xs : List X) (k : ℕ) (x : X) → All P xs → slice_get xs k ≡ Some x → P x
at-place P xs k x all e = subst P (get_or_from_slice_get xs k x x e) (all k x (slice_get_within xs k x e))

whole-at : (events : List Event) (cell : Cell) (k : ℕ) (e : Event) → IsUndivided events cell → slice_get events k ≡ Some e → KeepsWhole cell e
whole-at events (SlotOf slot) k e whole is = tt
whole-at events (SizeOf file) k e whole is = tt
whole-at events (AttrOf file key) k e whole is = tt
whole-at events (Segment file at len) k e whole is = at-place (KeepsWhole (Segment file at len)) events k e whole is

step-option :
    (s : State) (cell : Cell) (found : Option Event) → HasCell s cell
    → ((e : Event) → found ≡ Some e → Within e.effect × KeepsWhole cell e)
    → (cell_value (after_option s found) cell ≡ unwrap_or (option_and_then (given cell) found) (cell_value s cell)) × HasCell (after_option s found) cell
step-option s cell None h rules = (refl, h)
step-option s cell (Some e) h rules =
    let fits = rules e refl in
    (step s cell e h fits.0 fits.1, cell-kept s cell e h fits.0)

given-once : (o : Option Value) (v w : Value) → is_some o ≡ true → unwrap_or o v ≡ unwrap_or o w
given-once None v w e = cc
given-once (Some x) v w e = refl

-- the later of two writers decides
later-decides :
    (g : ℕ → Option Value) (later : Option ℕ) (a : ℕ) (v : Value) (o : Option Value) → g a ≡ o
    → IfSome later (λ w. is_some (g w) ≡ true)
    → unwrap_or (option_and_then g later) (unwrap_or o v)
    ≡ unwrap_or (option_and_then g (option_or later (cond (is_some o) (Some a) None))) v
later-decides g None a v None e writer = refl
later-decides g None a v (Some x) e writer = sym (ap (λ (o : Option Value). unwrap_or o v) e)
later-decides g (Some w) a v o e writer = given-once (g w) (unwrap_or o v) v writer

if-passes : (P : ℕ → Type 0) (a : ℕ) (b : Bool) → (b ≡ true → P a) → IfSome (cond b (Some a) None) P
if-passes P a true h = h refl
if-passes P a false h = tt

either-writes : (p : ℕ → Bool) (later : Option ℕ) (a : ℕ) → IfSome later (λ w. p w ≡ true) → IfSome (option_or later (cond (p a) (Some a) None)) (λ w. p w ≡ true)
either-writes p None a h = if-passes (λ w. p w ≡ true) a (p a) (λ e. e)
either-writes p (Some w) a h = h

-- what is found passes the test
pub last-passes : (p : ℕ → Bool) (order : List ℕ) → IfSome (last_where p order) (λ w. p w ≡ true)
last-passes p [] = tt
last-passes p (a ∷ order) = either-writes p (last_where p order) a (last-passes p order)

module _ (events : List Event) (cell : Cell) (rules : (k : ℕ) (e : Event) → slice_get events k ≡ Some e → Within e.effect × KeepsWhole cell e) where
  pub decides :
      (order : List ℕ) (s : State) → HasCell s cell
      → cell_value (after_numbers events s order) cell
      ≡ unwrap_or (option_and_then (given_by events cell) (last_writer events cell order)) (cell_value s cell)
  decides [] s h = refl
  decides (a ∷ order) s h =
      let one = step-option s cell (slice_get events (a - 1)) h (λ e is. rules (a - 1) e is) in
      decides order (after_option s (slice_get events (a - 1))) one.1
      ∙ ap (λ (v : Value). unwrap_or (option_and_then (given_by events cell) (last_writer events cell order)) v) one.0
      ∙ later-decides (given_by events cell) (last_writer events cell order) a (cell_value s cell) (given_by events cell a) refl (last-passes (is_writer events cell) order)

pub last-decides :
    (t : Trace) (cell : Cell) (order : List ℕ) → IsTrace t → IsThere t cell → IsUndivided t.events cell
    → cell_value (after_numbers t.events (start_state t) order) cell ≡ value_by t cell (last_writer t.events cell order)
last-decides t cell order rules there whole =
    decides t.events cell
    (λ k e is. (
      (let fits = at-place (IsEventOf t) t.events k e rules.events_fit is in within t e.kind e.effect fits.effect),
      whole-at t.events cell k e whole is,
    ))
    order (start_state t) (cell-at_start t cell rules there)
