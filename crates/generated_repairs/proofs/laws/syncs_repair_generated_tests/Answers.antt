use Rattle.generated_repairs.proofs.Repairs.{repaired}
use Rattle.generated_repairs.proofs.laws.syncs_repair_generated_tests.Goals as goal

pub returns : goal.returns
returns c = repaired
