use Rattle.sync_sites.proofs.Placed.{are_syncs, stand_outside, stand_behind, in_order}
use Rattle.sync_sites.proofs.laws.sites_are_syncs.Goals as goal

pub returns-clause-syncs : goal.returns-clause-syncs
returns-clause-syncs c = are_syncs

pub returns-clause-outside : goal.returns-clause-outside
returns-clause-outside c = stand_outside

pub returns-clause-behind : goal.returns-clause-behind
returns-clause-behind c = stand_behind

pub returns-clause-in_order : goal.returns-clause-in_order
returns-clause-in_order c = in_order
