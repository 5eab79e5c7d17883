use Rattle.std.proofs.Common.{length, ap, arith}
use Rattle.std.proofs.lemmas.Result.{err_from_is_err_and}
use Rattle.order_coding.proofs.GeneralGrowth.{grown-more, grown-part, grown-all}
use Rattle.value_coding.specs.LastClauses.{last_is}
use Rattle.value_coding.proofs.last_clauses.code_lasts.Goals as goal

pub loop-j-preserved : goal.loop-j-preserved
loop-j-preserved c =
    let more = grown-more (last_is c.args.n c.args.first c.args.writers.now) 1 c.loop-j.j c.args.store.now c.loop-j.store c.code_last_is.new.store (omega arith) c.loop-j.invariant.written c.in_ok-code_last_is.ensures.ok in
    record { within = omega arith; vars = ap (λ s. s.vars) more; written = more }

pub returns-in_err-code_last_is-clause-err : goal.returns-in_err-code_last_is-clause-err
returns-in_err-code_last_is-clause-err c =
    let p = err_from_is_err_and c.from_residual.result c.from_residual.ensures.1 in
    rw p.1
    (grown-part (last_is c.args.n c.args.first c.args.writers.now) 1 (length c.args.writers.now) c.loop-j.j c.args.store.now c.loop-j.store c.code_last_is.new.store
    (omega arith) (omega arith) c.loop-j.invariant.written c.in_err-code_last_is.ensures.err)

pub returns-clause-ok : goal.returns-clause-ok
returns-clause-ok c =
    grown-all (last_is c.args.n c.args.first c.args.writers.now) 1 (length c.args.writers.now) c.loop-j.j c.args.store.now c.loop-j.store (omega arith) c.loop-j.invariant.written
