use Rattle.std.proofs.Common.{◌≡◌, take}
use Rattle.std.specs.List.{flat_map}
use Rattle.order_coding.specs.Growth.{joined}
use Rattle.predicate_coding.specs.CellChoices.{yes_lit}
use Rattle.predicate_coding.specs.Growing.{if_both}
use Rattle.predicate_coding.proofs.atoms.code_two_slots.Given as goal

abbrev pub invariant-loop-p : goal.invariant-loop-p
invariant-loop-p l = record {
  vars : l.store.vars ≡ l.initial.store.vars;
  written : l.store ≡ joined l.initial.store (flat_map (if_both l.events (yes_lit l.own) l.left l.right l.cells) (take l.p-index l.cells));
}
