use Rattle.std.proofs.Common.{List, ℕ, Option, None, refl, ◌∙◌, ap}
use Rattle.fer_events.specs.States.{at_place}
use Rattle.fer_events.proofs.AtPlace.{set_is_at_place}
use Rattle.call_events.specs.declared.files.Files.{Files}
use Rattle.call_events.proofs.changing.set_file.Goals as goal

pub returns-in-Some : goal.returns-in-Some
returns-in-Some c =
    let held : List (Option ℕ) = c.args.files.now.held in
    let file : Option ℕ = c.args.file in
    let files : List (Option ℕ) → Files = λ h. record c.args.files.now { held = h } in
    ap files (c.set.ensures
    ∙ set_is_at_place (λ _. file) held c.in-Some.slot None file refl
    ∙ ap (λ (p : Option ℕ). at_place p (λ _. file) held) c.in-Some.ensures)
