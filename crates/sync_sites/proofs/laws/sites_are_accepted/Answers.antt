use Rattle.sync_sites.proofs.Accepted.{sites_accepted}
use Rattle.sync_sites.proofs.laws.sites_are_accepted.Goals as goal

pub returns : goal.returns
returns c = sites_accepted
