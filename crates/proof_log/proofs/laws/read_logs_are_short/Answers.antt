use Rattle.proof_log.proofs.Lengths.{few_clauses}
use Rattle.proof_log.proofs.laws.read_logs_are_short.Goals as goal

pub returns : goal.returns
returns c = few_clauses c.few_lines.ensures
