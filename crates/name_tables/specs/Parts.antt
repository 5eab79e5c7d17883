-- Private: how a table of slots is kept: each name once, and for each slot its directory and the number of its name.
use Rattle.std.specs.Prelude.{◌≡◌, ℕ, List, [], get_or, nat_eq, Some, position}
use Rattle.std.specs.Cmp.Lexicographic.{pointwise}
use Rattle.fer_events.specs.declared.tables.SlotName.{SlotName}

-- the slot of a directory and the number of a name
abbrev pub slot_named : List (List ℕ) → ℕ × ℕ → SlotName
slot_named names slot = record { dir = slot.0; name = get_or names slot.1 [] }

-- the number is that of the name that it stands for
abbrev pub IsOwn : List (List ℕ) → ℕ → Type 0
IsOwn names number = position (λ name. pointwise nat_eq (get_or names number []) name) names ≡ Some number
