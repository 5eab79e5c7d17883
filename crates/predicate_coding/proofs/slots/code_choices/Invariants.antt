use Rattle.std.proofs.Common.{◌≡◌, ◌+◌, ◌≤◌, length}
use Rattle.order_coding.specs.Growth.{joined}
use Rattle.predicate_coding.specs.AtomNodes.{as_held_to}
use Rattle.predicate_coding.proofs.slots.code_choices.Given as goal

abbrev pub invariant-loop-j : goal.invariant-loop-j
invariant-loop-j l = record {
  within : l.j ≤ length l.c.writers + 1;
  vars : l.store.vars ≡ l.fn.store.vars;
  written : l.store ≡ joined l.fn.store (as_held_to l.events l.slot l.first l.own l.c l.j);
}
