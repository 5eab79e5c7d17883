use Rattle.std.proofs.Common.{length, ap, arith}
use Rattle.std.proofs.lemmas.Result.{err_from_is_err_and}
use Rattle.order_coding.proofs.GeneralGrowth.{grown-more, grown-part, grown-all}
use Rattle.value_coding.specs.LastClauses.{other_before}
use Rattle.value_coding.proofs.last_clauses.code_others.Goals as goal

pub loop-k-preserved : goal.loop-k-preserved
loop-k-preserved c =
    let more = grown-more (other_before c.args.n c.args.first c.args.writers.now c.args.j) 1 c.loop-k.k c.args.store.now c.loop-k.store c.code_other.new.store (omega arith) c.loop-k.invariant.written c.in_ok-code_other.ensures.ok in
    record { within = omega arith; vars = ap (λ s. s.vars) more; written = more }

pub returns-in_err-code_other-clause-err : goal.returns-in_err-code_other-clause-err
returns-in_err-code_other-clause-err c =
    let p = err_from_is_err_and c.from_residual.result c.from_residual.ensures.1 in
    rw p.1
    (grown-part (other_before c.args.n c.args.first c.args.writers.now c.args.j) 1 (length c.args.writers.now) c.loop-k.k c.args.store.now c.loop-k.store c.code_other.new.store
    (omega arith) (omega arith) c.loop-k.invariant.written c.in_err-code_other.ensures.err)

pub returns-clause-ok : goal.returns-clause-ok
returns-clause-ok c =
    grown-all (other_before c.args.n c.args.first c.args.writers.now c.args.j) 1 (length c.args.writers.now) c.loop-k.k c.args.store.now c.loop-k.store (omega arith) c.loop-k.invariant.written
