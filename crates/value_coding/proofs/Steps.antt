-- One event and one cell: the cell has what the event gives it, and what it had before where the event gives it nothing.
use Rattle.std.proofs.Common.{◌≡◌, ◌⊎◌, inl, inr, ℕ, ◌+◌, ◌-◌, ◌<◌, ◌≤◌, Bool, true, false, leb, eqb, cond, List, [], length, take, drop, replicate, Option, Some, None, slice_get, unwrap_or, option_map, option_and_then, refl, sym, ◌∙◌, ap, arith}
use Rattle.std.proofs.lemmas.Bool.Decides.{nat_tests}
use Rattle.fer_events.specs.declared.event.Event.{Event}
use Rattle.fer_events.specs.declared.event.Kind.{Kind}
use Rattle.fer_events.specs.declared.event.Kind.TheVariants.{Write, Extend, Trunc}
use Rattle.fer_events.specs.declared.event.Effect.{Effect}
use Rattle.fer_events.specs.declared.event.Effect.TheVariants.{Bytes, Grow, Cut, SetAttr, PutName, ClearName, See, Nothing}
use Rattle.fer_events.specs.States.{State, at_place, written, cleared, effected, after_event}
use Rattle.fer_events.specs.Tables.{Trace, HasEffect}
use Rattle.fer_events.specs.Truth.{size_of}
use Rattle.value_coding.specs.declared.cell.Cell.{Cell}
use Rattle.value_coding.specs.declared.cell.Cell.TheVariants.{SlotOf, SizeOf, AttrOf, Segment}
use Rattle.value_coding.specs.Cells.{Value, Held, Sized, Valued, Filled, cell_value, held_by, attr_of, bytes_of}
use Rattle.value_coding.specs.Writers.{carries, slot_given, size_given, attr_given, bytes_given, has_all, given}
use Rattle.value_coding.specs.Undivided.{KeepsTogether}
use Rattle.value_coding.proofs.Places.{item-here, item-apart, held-here, held-apart}
use Rattle.value_coding.proofs.Bytes.{written-all, written-before, written-behind, cleared-all, cleared-before}

-- the state has a place for the cell
abbrev pub HasCell : State → Cell → Type 0
HasCell s (SlotOf slot) = slot < length s.slots
HasCell s (SizeOf file) = file < length s.sizes
HasCell s (AttrOf file key) = (key < length s.attrs) × (file < length (unwrap_or (slice_get s.attrs key) []))
HasCell s (Segment file at len) = (file < length s.bytes) × (length (unwrap_or (slice_get s.bytes file) []) ≡ 65536) × (at + len ≤ 65536)

-- the effect stays within a file
abbrev pub Within : Effect → Type 0
Within (Bytes at text) = at + length text ≤ 65536
Within (Grow at text size) = at + length text ≤ 65536
Within (Cut size) = size ≤ 65536
Within effect = Unit {0}

pub within : (t : Trace) (kind : Kind) (effect : Effect) → HasEffect t kind effect → Within effect
within t Write (Bytes at text) h = h
within t kind (Bytes at text) h = absurd h
within t Extend (Grow at text size) h = omega (arith, h.0, h.1)
within t kind (Grow at text size) h = absurd h
within t Trunc (Cut size) h = h
within t kind (Cut size) h = absurd h
within t kind (SetAttr key value) h = tt
within t kind PutName h = tt
within t kind ClearName h = tt
within t kind (See word) h = tt
within t kind Nothing h = tt

nothing-given : (b : Bool) (v : Value) → unwrap_or {T = Value} (cond b None None) v ≡ v
nothing-given true v = refl
nothing-given false v = refl

slot-step :
    (s : State) (slot : ℕ) (place file : Option ℕ) (effect : Effect) (b : Bool) → carries place slot ≡ b
    → slot < length s.slots
    → Held (held_by (effected s place file effect) slot) ≡ unwrap_or (cond b (option_map Held (slot_given file effect)) None) (Held (held_by s slot))
slot-step s slot place file (Bytes at text) b e h = sym (nothing-given b _)
slot-step s slot place file (Grow at text size) b e h = sym (nothing-given b _)
slot-step s slot place file (Cut size) b e h = sym (nothing-given b _)
slot-step s slot place file (SetAttr key value) b e h = sym (nothing-given b _)
slot-step s slot place file PutName true e h = ap Held (held-here place file s.slots slot h e)
slot-step s slot place file PutName false e h = ap Held (held-apart place file s.slots slot e)
slot-step s slot place file ClearName true e h = ap Held (held-here place None s.slots slot h e)
slot-step s slot place file ClearName false e h = ap Held (held-apart place None s.slots slot e)
slot-step s slot place file (See word) b e h = sym (nothing-given b _)
slot-step s slot place file Nothing b e h = sym (nothing-given b _)

size-step :
    (s : State) (file : ℕ) (slot place : Option ℕ) (effect : Effect) (b : Bool) → carries place file ≡ b
    → file < length s.sizes
    → Sized (size_of (effected s slot place effect) file) ≡ unwrap_or (cond b (option_map Sized (size_given effect)) None) (Sized (size_of s file))
size-step s file slot place (Bytes at text) b e h = sym (nothing-given b _)
size-step s file slot place (Grow at text size) true e h = ap Sized (item-here place (λ _. size) s.sizes file 0 h e)
size-step s file slot place (Grow at text size) false e h = ap Sized (item-apart place (λ _. size) s.sizes file 0 e)
size-step s file slot place (Cut size) true e h = ap Sized (item-here place (λ _. size) s.sizes file 0 h e)
size-step s file slot place (Cut size) false e h = ap Sized (item-apart place (λ _. size) s.sizes file 0 e)
size-step s file slot place (SetAttr key value) b e h = sym (nothing-given b _)
size-step s file slot place PutName b e h = sym (nothing-given b _)
size-step s file slot place ClearName b e h = sym (nothing-given b _)
size-step s file slot place (See word) b e h = sym (nothing-given b _)
size-step s file slot place Nothing b e h = sym (nothing-given b _)

-- a file's value of a key after a value was set
attr-set :
    (s : State) (file key set value : ℕ) (place : Option ℕ) (b c : Bool) → carries place file ≡ b → eqb set key ≡ c
    → key < length s.attrs → file < length (unwrap_or (slice_get s.attrs key) [])
    → Valued (attr_of (record s { attrs = at_place (Some set) (at_place place (λ _. Some value)) s.attrs }) file key)
    ≡ unwrap_or (cond b (option_map Valued (cond c (Some (Some value)) None)) None) (Valued (attr_of s file key))
attr-set s file key set value place true true e f h l =
    ap (λ (row : List (Option ℕ)). Valued (option_and_then (λ v. v) (slice_get row file)))
    (item-here (Some set) (at_place place (λ _. Some value)) s.attrs key [] h f)
    ∙ ap Valued (held-here place (Some value) (unwrap_or (slice_get s.attrs key) []) file l e)
attr-set s file key set value place false true e f h l =
    ap (λ (row : List (Option ℕ)). Valued (option_and_then (λ v. v) (slice_get row file)))
    (item-here (Some set) (at_place place (λ _. Some value)) s.attrs key [] h f)
    ∙ ap Valued (held-apart place (Some value) (unwrap_or (slice_get s.attrs key) []) file e)
attr-set s file key set value place true false e f h l =
    ap (λ (row : List (Option ℕ)). Valued (option_and_then (λ v. v) (slice_get row file)))
    (item-apart (Some set) (at_place place (λ _. Some value)) s.attrs key [] f)
attr-set s file key set value place false false e f h l =
    ap (λ (row : List (Option ℕ)). Valued (option_and_then (λ v. v) (slice_get row file)))
    (item-apart (Some set) (at_place place (λ _. Some value)) s.attrs key [] f)

attr-step :
    (s : State) (file key : ℕ) (slot place : Option ℕ) (effect : Effect) (b : Bool) → carries place file ≡ b
    → key < length s.attrs → file < length (unwrap_or (slice_get s.attrs key) [])
    → Valued (attr_of (effected s slot place effect) file key) ≡ unwrap_or (cond b (option_map Valued (attr_given key effect)) None) (Valued (attr_of s file key))
attr-step s file key slot place (Bytes at text) b e h l = sym (nothing-given b _)
attr-step s file key slot place (Grow at text size) b e h l = sym (nothing-given b _)
attr-step s file key slot place (Cut size) b e h l = sym (nothing-given b _)
attr-step s file key slot place (SetAttr set value) b e h l = attr-set s file key set value place b (eqb set key) e refl h l
attr-step s file key slot place PutName b e h l = sym (nothing-given b _)
attr-step s file key slot place ClearName b e h l = sym (nothing-given b _)
attr-step s file key slot place (See word) b e h l = sym (nothing-given b _)
attr-step s file key slot place Nothing b e h l = sym (nothing-given b _)

has-yes : (at len start : ℕ) (text : List ℕ) → has_all at len start text ≡ true → (start ≤ at) × (at + len ≤ start + length text)
has-yes at len start text e = grind (arith, nat_tests)

has-no :
    (at len start : ℕ) (text : List ℕ) → has_all at len start text ≡ false
    → ((start ≤ at) × (at + len ≤ start + length text)) ⊎ ((at + len ≤ start) ⊎ (start + length text ≤ at))
    → (at + len ≤ start) ⊎ (start + length text ≤ at)
has-no at len start text e (inl both) = absurd (grind (arith, nat_tests, both.0, both.1))
has-no at len start text e (inr apart) = apart

-- some bytes after a text was written
part-written :
    (bytes text : List ℕ) (at len start : ℕ) (b : Bool) → has_all at len start text ≡ b
    → start + length text ≤ length bytes
    → ((start ≤ at) × (at + len ≤ start + length text)) ⊎ ((at + len ≤ start) ⊎ (start + length text ≤ at))
    → Filled (take len (drop at (written start text bytes)))
    ≡ unwrap_or (option_map Filled (cond b (Some (take len (drop (at - start) text))) None)) (Filled (take len (drop at bytes)))
part-written bytes text at len start true e fits whole =
    let has = has-yes at len start text e in
    ap Filled (written-all at len start text bytes fits has.0 has.1)
part-written bytes text at len start false e fits whole = elim (has-no at len start text e whole) [
  | inl h ↦ ap Filled (written-before at len start text bytes fits h)
  | inr h ↦ ap Filled (written-behind at len start text bytes fits h)
]

le-yes : (m n : ℕ) → leb m n ≡ true → m ≤ n
le-yes m n e = grind (arith, nat_tests)

le-no : (m n l : ℕ) → leb m n ≡ false → (m ≤ n) ⊎ (l ≤ m) → l ≤ m
le-no m n l e (inl h) = absurd (grind (arith, nat_tests, h))
le-no m n l e (inr h) = h

-- some bytes after a cut
part-cleared :
    (bytes : List ℕ) (at len size : ℕ) (b : Bool) → leb size at ≡ b → size ≤ length bytes → at + len ≤ length bytes
    → (size ≤ at) ⊎ (at + len ≤ size)
    → Filled (take len (drop at (cleared size bytes)))
    ≡ unwrap_or (option_map Filled (cond b (Some (replicate len 0)) None)) (Filled (take len (drop at bytes)))
part-cleared bytes at len size true e fits room whole = ap Filled (cleared-all at len size bytes fits (le-yes size at e) room)
part-cleared bytes at len size false e fits room whole = ap Filled (cleared-before at len size bytes fits (le-no size at (at + len) e whole))

bytes-step :
    (s : State) (file at len : ℕ) (slot place : Option ℕ) (effect : Effect) (b : Bool) → carries place file ≡ b
    → HasCell s (Segment file at len) → Within effect → (carries place file ≡ true → KeepsTogether at len effect)
    → Filled (bytes_of (effected s slot place effect) file at len) ≡ unwrap_or (cond b (option_map Filled (bytes_given at len effect)) None) (Filled (bytes_of s file at len))
bytes-step s file at len slot place (Bytes start text) true e h fits whole =
    ap (λ (row : List ℕ). Filled (take len (drop at row))) (item-here place (written start text) s.bytes file [] h.0 e)
    ∙ part-written (unwrap_or (slice_get s.bytes file) []) text at len start (has_all at len start text) refl (omega (arith, h.1, fits)) (whole e)
bytes-step s file at len slot place (Bytes start text) false e h fits whole =
    ap (λ (row : List ℕ). Filled (take len (drop at row))) (item-apart place (written start text) s.bytes file [] e)
bytes-step s file at len slot place (Grow start text size) true e h fits whole =
    ap (λ (row : List ℕ). Filled (take len (drop at row))) (item-here place (written start text) s.bytes file [] h.0 e)
    ∙ part-written (unwrap_or (slice_get s.bytes file) []) text at len start (has_all at len start text) refl (omega (arith, h.1, fits)) (whole e)
bytes-step s file at len slot place (Grow start text size) false e h fits whole =
    ap (λ (row : List ℕ). Filled (take len (drop at row))) (item-apart place (written start text) s.bytes file [] e)
bytes-step s file at len slot place (Cut size) true e h fits whole =
    ap (λ (row : List ℕ). Filled (take len (drop at row))) (item-here place (cleared size) s.bytes file [] h.0 e)
    ∙ part-cleared (unwrap_or (slice_get s.bytes file) []) at len size (leb size at) refl (omega (arith, h.1, fits)) (omega (arith, h.1, h.2)) (whole e)
bytes-step s file at len slot place (Cut size) false e h fits whole =
    ap (λ (row : List ℕ). Filled (take len (drop at row))) (item-apart place (cleared size) s.bytes file [] e)
bytes-step s file at len slot place (SetAttr key value) b e h fits whole = sym (nothing-given b _)
bytes-step s file at len slot place PutName b e h fits whole = sym (nothing-given b _)
bytes-step s file at len slot place ClearName b e h fits whole = sym (nothing-given b _)
bytes-step s file at len slot place (See word) b e h fits whole = sym (nothing-given b _)
bytes-step s file at len slot place Nothing b e h fits whole = sym (nothing-given b _)

-- each event of the file writes all of the cell or none of it
abbrev pub KeepsWhole : Cell → Event → Type 0
KeepsWhole (Segment file at len) e = carries e.file file ≡ true → KeepsTogether at len e.effect
KeepsWhole cell e = Unit {0}

pub step :
    (s : State) (cell : Cell) (e : Event) → HasCell s cell → Within e.effect → KeepsWhole cell e
    → cell_value (after_event s e) cell ≡ unwrap_or (given cell e) (cell_value s cell)
step s (SlotOf slot) e h fits whole = slot-step s slot e.slot e.file e.effect (carries e.slot slot) refl h
step s (SizeOf file) e h fits whole = size-step s file e.slot e.file e.effect (carries e.file file) refl h
step s (AttrOf file key) e h fits whole = attr-step s file key e.slot e.file e.effect (carries e.file file) refl h.0 h.1
step s (Segment file at len) e h fits whole = bytes-step s file at len e.slot e.file e.effect (carries e.file file) refl h fits whole
