use Rattle.std.proofs.Common.{◌≡◌, ◌+◌, ◌≤◌, length, map}
use Rattle.std.specs.List.{range_with_len}
use Rattle.order_coding.specs.Growth.{joined}
use Rattle.predicate_coding.specs.AtomNodes.{same_choice}
use Rattle.predicate_coding.proofs.atoms.code_choice.Given as goal

abbrev pub invariant-loop-k : goal.invariant-loop-k
invariant-loop-k l = record {
  within : l.k ≤ length l.q.writers + 1;
  vars : l.store.vars ≡ l.fn.store.vars;
  written : l.store ≡ joined l.fn.store (map (same_choice l.events l.own l.p l.q l.j) (range_with_len 0 l.k));
}
