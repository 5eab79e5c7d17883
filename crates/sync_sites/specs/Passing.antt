-- Private: the slots of a state by themselves, event after event.
use Rattle.std.specs.Prelude.{ℕ, nat_le, List, Option, None, fold, filter}
use Rattle.fer_events.specs.declared.event.Event.{Event}
use Rattle.fer_events.specs.declared.event.Effect.{Effect}
use Rattle.fer_events.specs.declared.event.Effect.TheVariants.{PutName, ClearName}
use Rattle.fer_events.specs.States.{at_place}

-- the file that each slot holds behind an effect
abbrev pub held_of : List (Option ℕ) → Option ℕ → Option ℕ → Effect → List (Option ℕ)
held_of held slot file PutName = at_place slot (λ _. file) held
held_of held slot file ClearName = at_place slot (λ _. None) held
held_of held slot file effect = held

-- the file that each slot holds behind an event
abbrev pub held_after : List (Option ℕ) → Event → List (Option ℕ)
held_after held e = held_of held e.slot e.file e.effect

-- behind those of the events that are of the first k calls
abbrev pub held_upto : ℕ → List (Option ℕ) → List Event → List (Option ℕ)
held_upto k held events = fold held_after held (filter (λ e. nat_le e.call k) events)
