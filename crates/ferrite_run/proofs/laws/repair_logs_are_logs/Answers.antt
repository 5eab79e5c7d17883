use Rattle.ferrite_run.specs.Repair.{sited_log}
use Rattle.ferrite_run.proofs.SitedLogs.{closed_log, open_log, few_learned, sited_rules}
use Rattle.ferrite_run.proofs.laws.repair_logs_are_logs.Goals as goal

pub returns : goal.returns
returns c = record {
  accepted = closed_log;
  open_log = open_log;
  few = few_learned c.new_clauses_are_few.ensures.few;
  read = λ kind f rules few within short. c.printed_logs_are_read.ensures (sited_log kind f) (sited_rules kind f rules few within) short;
}
