use Rattle.std.proofs.Common.{ℕ, Option, None, refl, sym, ◌∙◌, ap}
use Rattle.fer_events.specs.States.{at_place}
use Rattle.fer_events.proofs.AtPlace.{set_is_at_place}
use Rattle.sync_sites.proofs.held.hold.Goals as goal

pub returns-in-Some : goal.returns-in-Some
returns-in-Some c =
    c.set.ensures
    ∙ set_is_at_place (λ _. c.args.file) c.args.held.now c.in-Some.slot None c.args.file refl
    ∙ ap (λ (place : Option ℕ). at_place place (λ _. c.args.file) c.args.held.now) (sym c.in-Some.is)
