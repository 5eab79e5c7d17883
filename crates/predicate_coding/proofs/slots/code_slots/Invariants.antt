use Rattle.std.proofs.Common.{◌≡◌, take}
use Rattle.std.specs.List.{flat_map}
use Rattle.order_coding.specs.Growth.{joined}
use Rattle.predicate_coding.specs.Growing.{if_slot}
use Rattle.predicate_coding.proofs.slots.code_slots.Given as goal

abbrev pub invariant-loop-c : goal.invariant-loop-c
invariant-loop-c l = record {
  vars : l.store.vars ≡ l.fn.store.vars;
  written : l.store ≡ joined l.fn.store (flat_map (if_slot l.events l.slot l.first l.own) (take l.c-index l.cells));
}
