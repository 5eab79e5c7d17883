use Rattle.std.proofs.Common.{◌≡◌, ◌+◌, ◌≤◌, ◌++◌, length}
use Rattle.predicate_coding.specs.Fits.{unsuited_to}
use Rattle.predicate_coding.proofs.fitting.push_cell.Given as goal

abbrev pub invariant-loop-j : goal.invariant-loop-j
invariant-loop-j l = record {
  within : l.j ≤ length l.c.writers + 1;
  added : l.out.items ≡ l.fn.out.items ++ unsuited_to l.events l.asked l.c l.j;
}
