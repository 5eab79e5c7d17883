use Rattle.sync_parts.proofs.Reached.{fewer-reach, part-reach}
use Rattle.sync_parts.proofs.laws.fewer_syncs_reach_more.Goals as goal

pub returns-clause-some : goal.returns-clause-some
returns-clause-some c = λ litmus model few many crash syncs outside some r. fewer-reach litmus model few many crash syncs outside some r

pub returns-clause-masks : goal.returns-clause-masks
returns-clause-masks c = λ litmus model sites x y syncs outside part found. part-reach litmus model sites x y syncs outside part found
