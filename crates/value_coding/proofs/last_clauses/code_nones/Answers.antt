use Rattle.std.proofs.Common.{[], ◌∷◌, length, ap, ◌∙◌, arith}
use Rattle.std.proofs.lemmas.Result.{err_from_is_err_and}
use Rattle.fer_events.specs.Orders.{numbers}
use Rattle.order_coding.specs.Growth.{joined}
use Rattle.order_coding.proofs.GeneralGrowth.{grown-more, grown-part, grown-all, beginning-same, beginning-none, flat-one}
use Rattle.value_coding.specs.LastClauses.{none_is}
use Rattle.value_coding.proofs.last_clauses.code_nones.Goals as goal

pub loop-k-preserved : goal.loop-k-preserved
loop-k-preserved c =
    let more = grown-more (λ k. none_is c.args.first c.args.writers.now k ∷ []) 1 c.loop-k.k c.args.store.now c.loop-k.store c.code_none.new.store (omega arith) c.loop-k.invariant.written c.in_ok-code_none.ensures.ok in
    record { within = omega arith; vars = ap (λ s. s.vars) more; written = more }

pub returns-in_err-code_none-clause-err : goal.returns-in_err-code_none-clause-err
returns-in_err-code_none-clause-err c =
    let p = err_from_is_err_and c.from_residual.result c.from_residual.ensures.1 in
    rw p.1
    (beginning-same c.code_none.new.store _ _ (ap (joined c.args.store.now) (flat-one (none_is c.args.first c.args.writers.now) (numbers (length c.args.writers.now))))
    (grown-part (λ k. none_is c.args.first c.args.writers.now k ∷ []) 1 (length c.args.writers.now) c.loop-k.k c.args.store.now c.loop-k.store c.code_none.new.store
    (omega arith) (omega arith) c.loop-k.invariant.written
    (rw c.in_err-code_none.ensures.err (beginning-none c.loop-k.store (none_is c.args.first c.args.writers.now c.loop-k.k ∷ [])))))

pub returns-clause-ok : goal.returns-clause-ok
returns-clause-ok c =
    grown-all (λ k. none_is c.args.first c.args.writers.now k ∷ []) 1 (length c.args.writers.now) c.loop-k.k c.args.store.now c.loop-k.store (omega arith) c.loop-k.invariant.written
    ∙ ap (joined c.args.store.now) (flat-one (none_is c.args.first c.args.writers.now) (numbers (length c.args.writers.now)))
