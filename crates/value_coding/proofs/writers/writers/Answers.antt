use Rattle.std.proofs.Common.{length, ap, arith}
use Rattle.value_coding.proofs.FewWriters.{writers-few}
use Rattle.value_coding.proofs.writers.writers.Goals as goal

pub returns-clause-few : goal.returns-clause-few
returns-clause-few c = omega (arith, ap length c.from_vec.ensures, ap length c.in_ok-found.ensures, writers-few c.args.events.now c.args.cell, c.requires)
