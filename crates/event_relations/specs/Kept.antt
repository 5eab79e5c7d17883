-- Which pairs of events a model keeps in order.
use Rattle.std.specs.Prelude.{◌≡◌, ℕ, ◌<◌, List, Some, slice_get}
use Rattle.fer_events.specs.declared.event.Event.{Event}
use Rattle.model_reader.specs.declared.expr.Expr.{Expr}
use Rattle.model_reader.specs.declared.model.Model.{Model}
use Rattle.event_relations.specs.Meaning.{Means, names_of}

-- the i-th `keep` line, counted from 0, keeps a before b: it relates them, and a comes first in program order
abbrev pub IsKeptBy : Model → List Event → ℕ → ℕ → ℕ → Type 0
IsKeptBy model events i a b =
    (x : Expr) × (slice_get model.keeps i ≡ Some x) × (a < b) × Means events (names_of events model.lets) x a b

-- some `keep` line keeps a before b
abbrev pub IsKept : Model → List Event → ℕ → ℕ → Type 0
IsKept model events a b = (i : ℕ) × IsKeptBy model events i a b
