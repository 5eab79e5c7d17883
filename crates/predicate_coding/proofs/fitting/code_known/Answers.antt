use Rattle.std.proofs.Common.{List, [], ◌∷◌, ◌++◌, ◌∙◌, ap}
use Rattle.clause_store.specs.declared.Lit.{Lit}
use Rattle.predicate_coding.specs.Fits.{misfits}
use Rattle.predicate_coding.proofs.Steps.{misfits_within, rest-named}
use Rattle.predicate_coding.proofs.fitting.code_known.Goals as goal

pub code_unless-requires-clause-named : goal.code_unless-requires-clause-named
code_unless-requires-clause-named c =
    rest-named c.as_slice-all.result.now c.args.fits (misfits c.args.events.now c.args.cells.now c.args.asked.now c.args.file) c.args.store.now.vars
    (c.as_slice-all.ensures.value ∙ c.in_ok-push_misfits.ensures
    ∙ ap (λ (xs : List Lit). xs ++ misfits c.args.events.now c.args.cells.now c.args.asked.now c.args.file) (c.in_ok-push.ensures.items ∙ ap (λ (xs : List Lit). xs ++ c.args.fits ∷ []) c.new-all.ensures.items))
    (misfits_within c.args.events.now c.args.store.now.vars c.args.cells.now c.args.asked.now c.args.file c.requires.coded)
