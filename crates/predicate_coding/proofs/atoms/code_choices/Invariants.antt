use Rattle.std.proofs.Common.{◌≡◌, ◌+◌, ◌≤◌, length, map}
use Rattle.std.specs.List.{flat_map, range_with_len}
use Rattle.order_coding.specs.Growth.{joined}
use Rattle.predicate_coding.specs.AtomNodes.{same_choice}
use Rattle.predicate_coding.specs.CellChoices.{choices}
use Rattle.predicate_coding.proofs.atoms.code_choices.Given as goal

abbrev pub invariant-loop-j : goal.invariant-loop-j
invariant-loop-j l = record {
  within : l.j ≤ length l.p.writers + 1;
  vars : l.store.vars ≡ l.fn.store.vars;
  written : l.store ≡ joined l.fn.store (flat_map (λ j. map (same_choice l.events l.own l.p l.q j) (choices l.events l.q.cell)) (range_with_len 0 l.j));
}
