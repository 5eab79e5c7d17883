use Rattle.std.proofs.Common.{◌≡◌, []}
use Rattle.cdcl_core.proofs.tests.all_signs.Given as goal

abbrev pub invariant-loop-signs : goal.invariant-loop-signs
invariant-loop-signs l = record {
  vars : l.solver.vars ≡ 3;
  learned : l.solver.learned ≡ [];
}
