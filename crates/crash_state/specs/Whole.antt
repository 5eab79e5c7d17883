-- Private: what is true of every state that this crate makes, and when a state has room for an event.
use Rattle.std.specs.Prelude.{◌+◌, ◌<◌, ◌≤◌, length, All, IfSome}
use Rattle.fer_events.specs.declared.event.Event.{Event}
use Rattle.fer_events.specs.declared.event.Effect.{Effect}
use Rattle.fer_events.specs.declared.event.Effect.TheVariants.{Bytes, Grow, Cut, SetAttr, PutName, ClearName, See, Nothing}
use Rattle.fer_events.specs.States.{State}

-- no file is longer than 65,536 bytes, and a slot holds only a file that is there
pub record IsWhole (s : State) : Type 0 where
  pub sizes : All (λ size. size ≤ 65536) s.sizes
  pub held : All (λ held. IfSome held (λ f. f < length s.sizes)) s.slots

-- a file has room for the bytes and the size of an effect, and the state has its key or its word
abbrev pub HasPlace : State → Effect → Type 0
HasPlace s (Bytes at text) = at + length text ≤ 65536
HasPlace s (Grow at text size) = (at + length text ≤ 65536) × (size ≤ 65536)
HasPlace s (Cut size) = size ≤ 65536
HasPlace s (SetAttr key value) = key < length s.attrs
HasPlace s PutName = Unit {0}
HasPlace s ClearName = Unit {0}
HasPlace s (See word) = word < length s.seen
HasPlace s Nothing = Unit {0}

-- the file and the slot of an event are in the state, and its effect has a place there
pub record HasRoom (s : State) (e : Event) : Type 0 where
  pub sizes : IfSome e.file (λ f. f < length s.sizes)
  pub bytes : IfSome e.file (λ f. f < length s.bytes)
  pub values : IfSome e.file (λ f. All (λ values. f < length values) s.attrs)
  pub slots : IfSome e.slot (λ n. n < length s.slots)
  pub place : HasPlace s e.effect
