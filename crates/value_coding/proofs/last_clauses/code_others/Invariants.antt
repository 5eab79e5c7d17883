use Rattle.std.proofs.Common.{◌≡◌, ◌+◌, ◌-◌, ◌≤◌, length}
use Rattle.std.specs.List.{flat_map, range_with_len}
use Rattle.order_coding.specs.Growth.{joined}
use Rattle.value_coding.specs.LastClauses.{other_before}
use Rattle.value_coding.proofs.last_clauses.code_others.Given as goal

abbrev pub invariant-loop-k : goal.invariant-loop-k
invariant-loop-k l = record {
  within : l.k ≤ 1 + length l.writers;
  vars : l.store.vars ≡ l.fn.store.vars;
  written : l.store ≡ joined l.fn.store (flat_map (other_before l.n l.first l.writers l.j) (range_with_len 1 (l.k - 1)));
}
