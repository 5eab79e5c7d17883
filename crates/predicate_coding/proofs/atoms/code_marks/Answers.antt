use Rattle.std.proofs.Common.{◌∙◌, ap}
use Rattle.clause_store.specs.Clauses.{Formula}
use Rattle.predicate_coding.proofs.AtomSteps.{marks-named}
use Rattle.predicate_coding.proofs.atoms.code_marks.Goals as goal

pub add-requires : goal.add-requires
add-requires c =
    marks-named c.args.marks.now c.lit-own.result c.as_slice.result.now c.args.store.now.vars c.add_vars.new.store.vars c.in_ok-add_vars.field-0
    (ap (λ (f : Formula). f.vars) c.in_ok-add_vars.ensures.added) c.lit-own.ensures c.in_ok-add_vars.ensures.last c.requires
    (c.as_slice.ensures.value ∙ c.in_ok-some.ensures)
