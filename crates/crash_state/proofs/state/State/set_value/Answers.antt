use Rattle.std.proofs.Common.{List, ℕ, Option, Some, None, refl, sym, ◌∙◌, ap}
use Rattle.fer_events.specs.States.{State, at_place}
use Rattle.fer_events.proofs.AtPlace.{set_is_at_place, nothing_at_place}
use Rattle.crash_state.proofs.Places.{attrs_at_place}
use Rattle.crash_state.proofs.state.State.set_value.Goals as goal

pub returns-in-Some : goal.returns-in-Some
returns-in-Some c =
    let value : Option ℕ → Option ℕ = λ _. Some c.args.value in
    let change : List (Option ℕ) → List (Option ℕ) = at_place (Some c.in-Some.file) value in
    let here = set_is_at_place value c.index_mut.result.now c.in-Some.file None (Some c.args.value) refl in
    let disk : Option ℕ → State = λ p. record c.args.self.now { attrs = at_place (Some c.args.key) (at_place p value) c.args.self.now.attrs } in
    attrs_at_place _ _ (Some c.args.key) _ change c.index_mut.result.now _ c.self.view_is refl (c.set.ensures ∙ here ∙ ap change c.index_mut.ensures.value)
    ∙ ap disk (sym c.in-Some.is)

pub returns-in_default : goal.returns-in_default
returns-in_default c =
    let value : Option ℕ → Option ℕ = λ _. Some c.args.value in
    let disk : List (List (Option ℕ)) → State = λ attrs. record c.args.self.now { attrs = attrs } in
    ap disk (sym (nothing_at_place (Some c.args.key) value c.args.self.now.attrs))
    ∙ ap (λ (p : Option ℕ). disk (at_place (Some c.args.key) (at_place p value) c.args.self.now.attrs)) (sym c.in_default.is)
