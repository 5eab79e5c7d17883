use Rattle.std.proofs.Common.{◌≡◌, take}
use Rattle.std.specs.List.{flat_map}
use Rattle.order_coding.specs.Growth.{joined}
use Rattle.predicate_coding.specs.Fits.{fits_clauses}
use Rattle.predicate_coding.proofs.slots.code_each_candidate.Given as goal

abbrev pub invariant-loop-file : goal.invariant-loop-file
invariant-loop-file l = record {
  vars : l.store.vars ≡ l.fn.store.vars;
  written : l.store ≡ joined l.fn.store (flat_map (fits_clauses l.events l.cells l.first l.asked l.slot) (take l.file-index l.files));
}
