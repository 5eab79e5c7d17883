use Rattle.std.proofs.Common.{◌≡◌, take}
use Rattle.order_coding.specs.Growth.{joined}
use Rattle.predicate_coding.specs.Growing.{apart}
use Rattle.predicate_coding.proofs.fitting.code_apart.Given as goal

abbrev pub invariant-loop-misfit : goal.invariant-loop-misfit
invariant-loop-misfit l = record {
  vars : l.store.vars ≡ l.fn.store.vars;
  written : l.store ≡ joined l.fn.store (apart l.fits (take l.misfit-index l.misfits));
}
