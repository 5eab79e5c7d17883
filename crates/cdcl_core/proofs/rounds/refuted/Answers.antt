use Rattle.clause_store.specs.Propagation.{negations}
use Rattle.cdcl_core.proofs.Ending.{part-assumed, refuted-part}
use Rattle.cdcl_core.proofs.Numbering.{follows-both}
use Rattle.cdcl_core.proofs.rounds.refuted.Goals as goal

pub returns : goal.returns
returns c = λ limit. (
  part-assumed c.args._assumptions.now c.in_ok-part.part c.args.engine.now.trail c.args._footing.now c.args.engine.now.store.clauses c.args.engine.now.watches.list c.requires.sound.search c.requires.footing c.requires.low c.in_ok-part.ensures.decided,
  follows-both c.args.engine.now.learned c.args.engine.now.store.clauses (negations c.in_ok-part.part)
      (refuted-part c.args.engine.now.store.clauses c.args.engine.now.trail.entries c.in_ok-part.part c.args.conflict c.in_ok-part.ensures.behind c.requires.false_clause),
)
