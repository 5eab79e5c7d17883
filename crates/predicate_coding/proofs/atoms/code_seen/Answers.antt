use Rattle.std.proofs.Common.{ℕ, ◌≤◌, List, ◌∙◌, ap, sym, subst}
use Rattle.std.specs.List.{All}
use Rattle.fer_events.specs.declared.event.Event.{Event}
use Rattle.predicate_coding.specs.AtomNodes.{marks_in}
use Rattle.predicate_coding.proofs.AtomSteps.{marks-within}
use Rattle.predicate_coding.proofs.atoms.code_seen.Goals as goal

pub code_marks-requires : goal.code_marks-requires
code_marks-requires c =
    subst (λ (xs : List ℕ). All (λ e. (1 ≤ e) × (e ≤ c.args.store.now.vars)) xs)
    (sym (c.as_slice.ensures.value ∙ c.in_ok-marks.ensures ∙ ap (λ (events : List Event). marks_in events c.args.word) c.events.ensures))
    (marks-within c.args.events.now.events c.args.word c.args.store.now.vars c.requires)
