use Rattle.std.proofs.Common.{◌≡◌, ◌++◌, take}
use Rattle.std.specs.List.{flat_map}
use Rattle.predicate_coding.specs.Growing.{if_read}
use Rattle.predicate_coding.proofs.fitting.push_misfits.Given as goal

abbrev pub invariant-loop-c : goal.invariant-loop-c
invariant-loop-c l = l.out.items ≡ l.fn.out.items ++ flat_map (if_read l.events l.asked l.file) (take l.c-index l.cells)
