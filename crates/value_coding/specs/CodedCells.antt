-- The cells of a question as they are coded: each with its writers and the first of its variables.
use Rattle.std.specs.Prelude.{ℕ, ◌+◌, List, [], ◌∷◌, length}
use Rattle.fer_events.specs.declared.event.Event.{Event}
use Rattle.value_coding.specs.declared.cell.Cell.{Cell}
use Rattle.value_coding.specs.declared.cell.CodedCell.{CodedCell}
use Rattle.value_coding.specs.Writers.{writers}

-- the cells with their variables, from `first` on: one that says that no writer is in, then one for each writer
abbrev pub coded_cells : List Event → ℕ → List Cell → List CodedCell
coded_cells events first [] = []
coded_cells events first (cell ∷ more) =
    record { cell = cell; first = first; writers = writers events cell }
    ∷ coded_cells events (first + (length (writers events cell) + 1)) more
