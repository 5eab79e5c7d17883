use Rattle.sync_sites.proofs.TooMany.{too_many, one_line}
use Rattle.sync_sites.proofs.laws.too_many_or_few.Goals as goal

pub returns-clause-too_many : goal.returns-clause-too_many
returns-clause-too_many c = too_many

pub returns-clause-one_line : goal.returns-clause-one_line
returns-clause-one_line c = one_line
