-- A cell has no more writers than there are events.
use Rattle.std.proofs.Common.{◌≤◌, List, length, arith}
use Rattle.std.proofs.lemmas.List.Sums.{length-filter, count_by-le-length}
use Rattle.std.proofs.lemmas.List.FromFn.{length-range_with_len}
use Rattle.fer_events.specs.declared.event.Event.{Event}
use Rattle.fer_events.specs.Orders.{numbers}
use Rattle.value_coding.specs.declared.cell.Cell.{Cell}
use Rattle.value_coding.specs.Writers.{is_writer, writers}

pub writers-few : (events : List Event) (cell : Cell) → length (writers events cell) ≤ length events
writers-few events cell =
    omega (
      arith,
      length-filter (is_writer events cell) (numbers (length events)),
      count_by-le-length (is_writer events cell) (numbers (length events)),
      length-range_with_len 1 (length events),
    )
