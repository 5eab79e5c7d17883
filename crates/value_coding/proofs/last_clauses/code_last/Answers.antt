use Rattle.std.proofs.Common.{List, sym, ◌∙◌, subst}
use Rattle.std.specs.List.{All}
use Rattle.std.proofs.lemmas.Result.{err_from_is_err_and}
use Rattle.clause_store.specs.declared.Lit.{Lit}
use Rattle.clause_store.specs.Clauses.{InVars}
use Rattle.value_coding.proofs.LastStages.{some-named, in-lasts, in-nones}
use Rattle.value_coding.proofs.last_clauses.code_last.Goals as goal

pub add-requires : goal.add-requires
add-requires c =
    subst (λ (clause : List Lit). All (InVars c.args.store.now.vars) clause) (sym (c.as_slice.ensures.value ∙ c.in_ok-some.ensures))
    (some-named c.args.first c.args.store.now.vars c.args.writers.now c.requires.some c.requires.room)

pub returns-in_err-code_lasts-clause-err : goal.returns-in_err-code_lasts-clause-err
returns-in_err-code_lasts-clause-err c =
    let p = err_from_is_err_and c.from_residual-in_err-code_lasts.result c.from_residual-in_err-code_lasts.ensures.1 in
    rw p.1
    (in-lasts c.args.n c.args.first c.args.writers.now c.args.store.now c.add.new.self c.code_lasts.new.store c.code_lasts.new.store c.as_slice.result.now
    (c.as_slice.ensures.value ∙ c.in_ok-some.ensures) c.in_ok-add.ensures.added c.in_err-code_lasts.ensures.err)

pub returns-in_err-code_nones-clause-err : goal.returns-in_err-code_nones-clause-err
returns-in_err-code_nones-clause-err c =
    let p = err_from_is_err_and c.from_residual-in_err-code_nones.result c.from_residual-in_err-code_nones.ensures.1 in
    rw p.1
    (in-nones c.args.n c.args.first c.args.writers.now c.args.store.now c.add.new.self c.code_lasts.new.store c.code_nones.new.store c.as_slice.result.now
    (c.as_slice.ensures.value ∙ c.in_ok-some.ensures) c.in_ok-add.ensures.added c.in_ok-code_lasts.ensures.ok c.in_err-code_nones.ensures.err)
