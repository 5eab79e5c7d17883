-- The pairs that a model keeps of events run forward.
use Rattle.std.proofs.Common.{◌<◌, ◌≤◌, ℕ, List, length, get_or, sym, subst}
use Rattle.std.proofs.lemmas.List.{get_or_default}
use Rattle.fer_events.specs.declared.event.Event.{Event}
use Rattle.fer_events.specs.Orders.{AreForward}
use Rattle.fer_events.specs.Pairs.{PairList}
use Rattle.model_reader.specs.declared.model.Model.{Model}
use Rattle.event_relations.specs.Kept.{IsKept}
use Rattle.sync_repair.specs.Sets.{AreKept}

pub are_forward :
    ((model : Model) (events : List Event) (a b : ℕ) → IsKept model events a b → (1 ≤ a) × (a < b) × (b ≤ length events))
    → (model : Model) (events : List Event) (pairs : PairList) → AreKept model events pairs → AreForward pairs.n pairs.pairs
are_forward forward model events pairs are j d there =
    let p : ℕ × ℕ = get_or pairs.pairs j d in
    let inside = forward model events p.0 p.1 ((are.exactly p.0 p.1).0 (j, there, get_or_default pairs.pairs j p d there)) in
    subst (λ n. (1 ≤ p.0) × (p.0 < p.1) × (p.1 ≤ n)) (sym are.counted) inside
