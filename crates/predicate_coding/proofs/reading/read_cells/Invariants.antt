use Rattle.std.proofs.Common.{◌≡◌, take}
use Rattle.std.specs.List.{filter}
use Rattle.predicate_coding.specs.Asking.{reads_file}
use Rattle.predicate_coding.proofs.reading.read_cells.Given as goal

abbrev pub invariant-loop-c : goal.invariant-loop-c
invariant-loop-c l = l.read.items ≡ filter (λ c. reads_file l.asked c.cell) (take l.c-index l.cells)
