-- When a model keeps what stands around a `sync`.
use Rattle.std.specs.Prelude.{◌≡◌, ◌⊎◌, ℕ, ◌<◌, List}
use Rattle.fer_events.specs.declared.event.Event.{Event}
use Rattle.fer_events.specs.declared.event.Kind.TheVariants.{Sync}
use Rattle.fer_events.specs.Orders.{IsEvent}
use Rattle.model_reader.specs.declared.model.Model.{Model}
use Rattle.event_relations.specs.Kept.{IsKept}

-- whatever stands before a `sync` in program order the model keeps before it, and whatever stands behind it, behind it
abbrev pub KeepsSyncs : Model → Type 0
KeepsSyncs model = (events : List Event) (a b : ℕ) (e f : Event) → a < b → IsEvent events a e → IsEvent events b f
    → ((e.kind ≡ Sync) ⊎ (f.kind ≡ Sync)) → IsKept model events a b
