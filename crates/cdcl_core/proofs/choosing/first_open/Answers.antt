use Rattle.cdcl_core.proofs.Opening.{none-free}
use Rattle.cdcl_core.proofs.choosing.first_open.Goals as goal

pub returns-clause-none : goal.returns-clause-none
returns-clause-none c = none-free c.args.trail.now c.values.result.now c.values.ensures.len c.values.ensures.each c.pick.result c.pick.ensures.none
