use Rattle.std.proofs.Common.{◌<◌, ◌^◌, ℕ, length, subst}
use Rattle.ferrite_run.specs.Check.{plain_log}
use Rattle.ferrite_run.proofs.KeptLogs.{refuting_log, open_log, plain_rules}
use Rattle.ferrite_run.proofs.laws.kept_logs_are_logs.Goals as goal

pub returns : goal.returns
returns c = record {
  accepted = refuting_log;
  open_log = open_log;
  few = λ f part rules is.
      subst (λ (v : ℕ). length part.learned < 4 ^ v) is.of.vars
      (c.new_clauses_are_few.ensures.few part.vars f.clauses part.learned is.leaves.learned.new rules.named is.leaves.learned.some);
  read = λ part rules short. c.printed_logs_are_read.ensures (plain_log part) (plain_rules part rules) short;
}
