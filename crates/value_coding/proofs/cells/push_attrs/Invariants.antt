use Rattle.std.proofs.Common.{◌≡◌, ◌++◌}
use Rattle.std.specs.List.{flat_map, range_with_len}
use Rattle.value_coding.specs.CellLists.{attrs_of}
use Rattle.value_coding.proofs.cells.push_attrs.Given as goal

abbrev pub invariant-loop-file : goal.invariant-loop-file
invariant-loop-file l = l.cells.items ≡ l.fn.cells.items ++ flat_map (attrs_of l.events l.readings) (range_with_len 0 l.file)
