use Rattle.witness_replay.proofs.PrintedLines.{line_alone, line_behind_allowed}
use Rattle.witness_replay.proofs.laws.printed_crashes_are_read.Goals as goal

pub returns-clause-alone : goal.returns-clause-alone
returns-clause-alone c = line_alone

pub returns-clause-behind_allowed : goal.returns-clause-behind_allowed
returns-clause-behind_allowed c = line_behind_allowed
