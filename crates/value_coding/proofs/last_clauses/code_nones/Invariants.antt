use Rattle.std.proofs.Common.{◌≡◌, ◌+◌, ◌-◌, ◌≤◌, [], ◌∷◌, length}
use Rattle.std.specs.List.{flat_map, range_with_len}
use Rattle.order_coding.specs.Growth.{joined}
use Rattle.value_coding.specs.LastClauses.{none_is}
use Rattle.value_coding.proofs.last_clauses.code_nones.Given as goal

abbrev pub invariant-loop-k : goal.invariant-loop-k
invariant-loop-k l = record {
  within : l.k ≤ 1 + length l.writers;
  vars : l.store.vars ≡ l.fn.store.vars;
  written : l.store ≡ joined l.fn.store (flat_map (λ k. none_is l.first l.writers k ∷ []) (range_with_len 1 (l.k - 1)));
}
