use Rattle.sync_parts.proofs.SiteCalls.{site-there, site-only}
use Rattle.sync_parts.proofs.laws.a_site_has_its_event.Goals as goal

pub returns-clause-there : goal.returns-clause-there
returns-clause-there c = λ litmus sites t i site syncs order h at. site-there litmus sites t i syncs order h site at

pub returns-clause-only : goal.returns-clause-only
returns-clause-only c = λ litmus sites t i s r syncs order h first second. site-only litmus sites t i s r syncs order h first second
