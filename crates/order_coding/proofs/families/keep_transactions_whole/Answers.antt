use Rattle.std.proofs.Common.{◌-◌, length, arith}
use Rattle.std.proofs.lemmas.Result.{err_from_is_err_and}
use Rattle.order_coding.specs.Families.{in_together}
use Rattle.order_coding.proofs.GeneralGrowth.{grown-more, grown-part, grown-all}
use Rattle.order_coding.proofs.families.keep_transactions_whole.Goals as goal

pub loop-e-preserved : goal.loop-e-preserved
loop-e-preserved c = record {
  within = omega arith;
  written =
      grown-more (in_together c.args.events.now) 1 c.loop-e.e c.args.store.now c.loop-e.store c.tie_neighbours.new.store (omega arith)
      c.loop-e.invariant.written c.in_ok-tie_neighbours.ensures.ok;
}

pub returns-in_err-tie_neighbours-clause-err : goal.returns-in_err-tie_neighbours-clause-err
returns-in_err-tie_neighbours-clause-err c =
    let p = err_from_is_err_and c.from_residual.result c.from_residual.ensures.1 in
    rw p.1
    (grown-part (in_together c.args.events.now) 1 (length c.args.events.now - 1) c.loop-e.e c.args.store.now c.loop-e.store
    c.tie_neighbours.new.store (omega arith) (omega arith) c.loop-e.invariant.written c.in_err-tie_neighbours.ensures.err)

pub returns-clause-ok : goal.returns-clause-ok
returns-clause-ok c =
    grown-all (in_together c.args.events.now) 1 (length c.args.events.now - 1) c.loop-e.e c.args.store.now c.loop-e.store
    (omega arith) c.loop-e.invariant.written
