-- What events leave: the state of the disk, and what somebody saw.
use Rattle.std.specs.Prelude.{ℕ, zero, suc, ◌+◌, ◌-◌, Bool, true, false, ◌&&◌, ◌==◌, List, [], ◌∷◌, ◌++◌, length, map, take, drop, fold, find, replicate, slice_get, Option, Some, None, option_map}
use Rattle.std.specs.List.{range_with_len}
use Rattle.fer_events.specs.declared.event.Event.{Event}
use Rattle.fer_events.specs.declared.event.Effect.{Effect}
use Rattle.fer_events.specs.declared.event.Effect.TheVariants.{Bytes, Grow, Cut, SetAttr, PutName, ClearName, See, Nothing}
use Rattle.fer_events.specs.declared.event.Crash.{Crash}
use Rattle.fer_events.specs.declared.tables.AttrValue.{AttrValue}
use Rattle.fer_events.specs.Orders.{before_cut}
use Rattle.fer_events.specs.Tables.{Trace, file_count}

-- the file that each slot holds; each file's size and its 65,536 bytes; for each key, each file's value; which words were
-- seen
pub record State : Type 0 where
  pub slots : List (Option ℕ)
  pub sizes : List ℕ
  pub bytes : List (List ℕ)
  pub attrs : List (List (Option ℕ))
  pub seen : List Bool

-- the bytes of a file that has this content: where nothing was written they are zero
unfoldable pub padded : List ℕ → List ℕ
padded content = content ++ replicate (65536 - length content) 0

-- the value that the setup gave a file's key
abbrev pub value_set : List AttrValue → ℕ → ℕ → Option ℕ
value_set attrs file key = option_map (λ a. a.value) (find (λ a. (a.file == file) && (a.key == key)) attrs)

-- the state after the setup; no word was seen yet
abbrev pub start_state : Trace → State
start_state t = record {
  slots = t.start.slots;
  sizes = map (λ content. length content) t.start.contents;
  bytes = map padded t.start.contents;
  attrs = map (λ key. map (λ file. value_set t.start.attrs file key) (range_with_len 0 (file_count t))) (range_with_len 0 (length t.keys));
  seen = replicate (length t.words) false;
}

-- the list with a changed item at a place, if there is one
abbrev pub at_place : {X : Type 0} → Option ℕ → (X → X) → List X → List X
at_place None change xs = xs
at_place (Some place) change [] = []
at_place (Some zero) change (x ∷ xs) = change x ∷ xs
at_place (Some (suc place)) change (x ∷ xs) = x ∷ at_place (Some place) change xs

-- the bytes with a text written at a place
unfoldable pub written : ℕ → List ℕ → List ℕ → List ℕ
written at text bytes = take at bytes ++ text ++ drop (at + length text) bytes

-- the bytes with every one from a place on zero
unfoldable pub cleared : ℕ → List ℕ → List ℕ
cleared size bytes = take size bytes ++ replicate (length bytes - size) 0

-- what the effect of an event leaves that carries this slot and this file
abbrev pub effected : State → Option ℕ → Option ℕ → Effect → State
effected s slot file (Bytes at text) = record s { bytes = at_place file (written at text) s.bytes }
effected s slot file (Grow at text size) = record s { bytes = at_place file (written at text) s.bytes; sizes = at_place file (λ _. size) s.sizes }
effected s slot file (Cut size) = record s { bytes = at_place file (cleared size) s.bytes; sizes = at_place file (λ _. size) s.sizes }
effected s slot file (SetAttr key value) = record s { attrs = at_place (Some key) (at_place file (λ _. Some value)) s.attrs }
effected s slot file PutName = record s { slots = at_place slot (λ _. file) s.slots }
effected s slot file ClearName = record s { slots = at_place slot (λ _. None) s.slots }
effected s slot file (See word) = record s { seen = at_place (Some word) (λ _. true) s.seen }
effected s slot file Nothing = s

-- the state after one event
abbrev pub after_event : State → Event → State
after_event s e = effected s e.slot e.file e.effect

abbrev pub after_option : State → Option Event → State
after_option s None = s
after_option s (Some e) = after_event s e

-- the state after the events of these numbers, one after another
abbrev pub after_numbers : List Event → State → List ℕ → State
after_numbers events start order = fold (λ s a. after_option s (slice_get events (a - 1))) start order

-- the state after a crash: the effects of the events before the cut, in their order, on the state after the setup
abbrev pub after_crash : Trace → Crash → State
after_crash t crash = after_numbers t.events (start_state t) (before_cut crash)
