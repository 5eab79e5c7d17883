use Rattle.std.proofs.Common.{◌≡◌, take}
use Rattle.std.specs.List.{flat_map}
use Rattle.order_coding.specs.Growth.{joined}
use Rattle.predicate_coding.specs.Growing.{if_other}
use Rattle.predicate_coding.proofs.atoms.code_all_right.Given as goal

abbrev pub invariant-loop-q : goal.invariant-loop-q
invariant-loop-q l = record {
  vars : l.store.vars ≡ l.fn.store.vars;
  written : l.store ≡ joined l.fn.store (flat_map (if_other l.events l.own l.right l.p) (take l.q-index l.cells));
}
