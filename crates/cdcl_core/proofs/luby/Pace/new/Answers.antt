use Rattle.std.proofs.Common.{arith}
use Rattle.cdcl_core.proofs.Pacing.{first-number}
use Rattle.cdcl_core.proofs.luby.Pace.new.Goals as goal

pub returns-clause-left : goal.returns-clause-left
returns-clause-left c = omega (arith, first-number)
