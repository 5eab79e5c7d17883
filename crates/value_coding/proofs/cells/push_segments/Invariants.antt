use Rattle.std.proofs.Common.{◌≡◌, ◌++◌}
use Rattle.std.specs.List.{flat_map, range_with_len}
use Rattle.value_coding.specs.CellLists.{file_segments}
use Rattle.value_coding.proofs.cells.push_segments.Given as goal

abbrev pub invariant-loop-file : goal.invariant-loop-file
invariant-loop-file l = l.cells.items ≡ l.fn.cells.items ++ flat_map (file_segments l.events l.readings) (range_with_len 0 l.file)
