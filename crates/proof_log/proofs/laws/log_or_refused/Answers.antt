use Rattle.proof_log.proofs.DecidingLines.{log_or_refused}
use Rattle.proof_log.proofs.laws.log_or_refused.Goals as goal

pub returns : goal.returns
returns c = log_or_refused
