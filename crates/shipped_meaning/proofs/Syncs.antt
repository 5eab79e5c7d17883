-- What the models that come with Ferrite keep before and behind a `sync`.
use Rattle.std.proofs.Common.{◌≡◌, ℕ, ◌<◌, List, refl, ◌∙◌, ap}
use Rattle.std.specs.Int.{bit_at}
use Rattle.fer_events.specs.declared.event.Event.{Event}
use Rattle.fer_events.specs.declared.event.Kind.{Kind}
use Rattle.fer_events.specs.declared.event.Kind.TheVariants.{Sync}
use Rattle.fer_events.specs.Orders.{IsEvent}
use Rattle.model_library.specs.declared.texts.ShippedModel.{ShippedModel}
use Rattle.model_library.specs.declared.texts.ShippedModel.TheVariants.{Sequential, Ext4like, Loose}
use Rattle.model_reader.specs.declared.expr.Expr.TheVariants as expr
use Rattle.event_relations.specs.Words.{kind_place}
use Rattle.event_relations.specs.Words.Relates.{earlier, kinds}
use Rattle.event_relations.specs.Meaning.{Names, Means}
use Rattle.event_relations.specs.Meaning.Means.{word, joined}
use Rattle.event_relations.specs.Kept.{IsKept}
use Rattle.shipped_meaning.specs.Shipped.{shipped_model}

module _ (events : List Event) (names : Names) (a b : ℕ) (e f : Event) (early : a < b) (first : IsEvent events a e) (second : IsEvent events b f) where
  -- the second event comes later
  in_order : Means events names expr.Po a b
  in_order = word expr.Po a b e f first second (earlier early)

  -- and it is of a listed kind
  to_kind : (bits : ℕ) → bit_at bits (kind_place f.kind) ≡ 1 → Means events names (expr.Seq expr.Po (expr.Kinds bits)) a b
  to_kind bits listed = joined expr.Po (expr.Kinds bits) a b b in_order (word (expr.Kinds bits) b b f f second second (kinds bits refl listed))

  -- the second event comes later, and the first is of a listed kind
  from_kind : (bits : ℕ) → bit_at bits (kind_place e.kind) ≡ 1 → Means events names (expr.Seq (expr.Kinds bits) expr.Po) a b
  from_kind bits listed = joined (expr.Kinds bits) expr.Po a a b (word (expr.Kinds bits) a a e e first first (kinds bits refl listed)) in_order

-- a `sync` is of a kind whose bit is set
sync_listed : (bits : ℕ) (kind : Kind) → kind ≡ Sync → bit_at bits 8 ≡ 1 → bit_at bits (kind_place kind) ≡ 1
sync_listed bits kind is set = ap (λ (k : Kind). bit_at bits (kind_place k)) is ∙ set

pub kept_before :
    (m : ShippedModel) (events : List Event) (a b : ℕ) (e f : Event)
    → a < b → IsEvent events a e → IsEvent events b f → f.kind ≡ Sync → IsKept (shipped_model m) events a b
kept_before Sequential events a b e f early first second is = (0, (expr.Po, refl, early, in_order events _ a b e f early first second))
kept_before Ext4like events a b e f early first second is =
    (6, (_, refl, early, to_kind events _ a b e f early first second 256 (sync_listed 256 f.kind is refl)))
kept_before Loose events a b e f early first second is =
    (0, (_, refl, early, to_kind events _ a b e f early first second 256 (sync_listed 256 f.kind is refl)))

pub kept_behind :
    (m : ShippedModel) (events : List Event) (a b : ℕ) (e f : Event)
    → a < b → IsEvent events a e → IsEvent events b f → e.kind ≡ Sync → IsKept (shipped_model m) events a b
kept_behind Sequential events a b e f early first second is = (0, (expr.Po, refl, early, in_order events _ a b e f early first second))
kept_behind Ext4like events a b e f early first second is =
    (7, (_, refl, early, from_kind events _ a b e f early first second 960 (sync_listed 960 e.kind is refl)))
kept_behind Loose events a b e f early first second is =
    (1, (_, refl, early, from_kind events _ a b e f early first second 256 (sync_listed 256 e.kind is refl)))
