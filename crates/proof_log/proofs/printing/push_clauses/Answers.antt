use Rattle.std.proofs.Common.{◌∙◌, arith}
use Rattle.proof_log.proofs.PrintedClauses.{clauses_more}
use Rattle.proof_log.proofs.printing.push_clauses.Goals as goal

pub loop-id-preserved : goal.loop-id-preserved
loop-id-preserved c = (
  omega (arith, c.loop-id.invariant.0),
  c.in_ok-push_clause.ensures
      ∙ clauses_more c.args.out.now.items c.loop-id.out.items c.args.store.now.clauses c.args.start c.loop-id.id c.clause.result.now c.loop-id.invariant.0
      (omega (arith, c.loop-id-test.true, c.requires.there)) c.clause.ensures.clause c.loop-id.invariant.1,
)
