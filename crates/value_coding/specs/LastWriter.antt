-- The last writer of a cell in an order of events.
use Rattle.std.specs.Prelude.{ℕ, Bool, List, [], ◌∷◌, if◌then◌else◌, Option, Some, None}
use Rattle.std.specs.Option.{option_or}
use Rattle.fer_events.specs.declared.event.Event.{Event}
use Rattle.value_coding.specs.declared.cell.Cell.{Cell}
use Rattle.value_coding.specs.Writers.{is_writer}

-- the last number of the order that passes the test
abbrev pub last_where : (ℕ → Bool) → List ℕ → Option ℕ
last_where test [] = None
last_where test (a ∷ order) = option_or (last_where test order) (if test a then Some a else None)

-- the last number of the order that is a writer of the cell
abbrev pub last_writer : List Event → Cell → List ℕ → Option ℕ
last_writer events cell order = last_where (is_writer events cell) order
