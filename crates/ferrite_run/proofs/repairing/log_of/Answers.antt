use Rattle.std.proofs.Common.{◌∙◌, ap}
use Rattle.ferrite_run.specs.Repair.{site_numbers}
use Rattle.ferrite_run.proofs.Numbers.{numbers_ascend, numbers_from_1}
use Rattle.ferrite_run.proofs.repairing.log_of.Goals as goal

pub with_sites-requires-clause-ascending : goal.with_sites-requires-clause-ascending
with_sites-requires-clause-ascending c = numbers_ascend c.args.findings.set c.in_ok-numbers.numbers (c.in_ok-numbers.ensures ∙ ap site_numbers c.as_slice.ensures)

pub with_sites-requires-clause-numbered : goal.with_sites-requires-clause-numbered
with_sites-requires-clause-numbered c = numbers_from_1 c.args.findings.set c.in_ok-numbers.numbers (c.in_ok-numbers.ensures ∙ ap site_numbers c.as_slice.ensures)
