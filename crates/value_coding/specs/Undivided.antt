-- When each event writes all of a cell or none of it.
use Rattle.std.specs.Prelude.{◌≡◌, ◌⊎◌, ℕ, ◌+◌, ◌≤◌, true, List, [], ◌∷◌, length, All}
use Rattle.fer_events.specs.declared.event.Event.{Event}
use Rattle.fer_events.specs.declared.event.Effect.{Effect}
use Rattle.fer_events.specs.declared.event.Effect.TheVariants.{Bytes, Grow, Cut}
use Rattle.value_coding.specs.declared.cell.Cell.{Cell}
use Rattle.value_coding.specs.declared.cell.Cell.TheVariants.{Segment}
use Rattle.value_coding.specs.Runs.{AllOrNone}
use Rattle.value_coding.specs.Writers.{carries}

-- a place where an event begins or ends to write, or cuts
abbrev pub edges_of : Effect → List ℕ
edges_of (Bytes start text) = start ∷ (start + length text) ∷ []
edges_of (Grow start text size) = start ∷ (start + length text) ∷ []
edges_of (Cut size) = size ∷ []
edges_of effect = []

-- the effect writes all of the places or none of them
abbrev pub KeepsTogether : ℕ → ℕ → Effect → Type 0
KeepsTogether at len (Bytes start text) = AllOrNone at len start (start + length text)
KeepsTogether at len (Grow start text size) = AllOrNone at len start (start + length text)
KeepsTogether at len (Cut size) = (size ≤ at) ⊎ (at + len ≤ size)
KeepsTogether at len effect = Unit {0}

-- each event writes all of the cell or none of it
abbrev pub IsUndivided : List Event → Cell → Type 0
IsUndivided events (Segment file at len) = All (λ e. carries e.file file ≡ true → KeepsTogether at len e.effect) events
IsUndivided events cell = Unit {0}
