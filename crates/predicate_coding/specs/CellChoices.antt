-- The values that a cell may have, each by one of its writers or from the start, and the files that a slot may hold.
use Rattle.std.specs.Prelude.{ℕ, ◌+◌, Bool, true, false, ◌==◌, List, length, filter, Option, None}
use Rattle.std.specs.List.{range_with_len}
use Rattle.clause_store.specs.declared.Lit.{Lit}
use Rattle.fer_events.specs.Tables.{Trace, file_count}
use Rattle.value_coding.specs.declared.cell.Cell.{Cell}
use Rattle.value_coding.specs.declared.cell.Cell.TheVariants.{SlotOf}
use Rattle.value_coding.specs.Cells.{Value, Held}
use Rattle.value_coding.specs.Readings.{may_hold}
use Rattle.value_coding.specs.Writers.{writers, value_by}
use Rattle.value_coding.specs.LastClauses.{named_writer}
use Rattle.value_coding.specs.declared.cell.CodedCell.{CodedCell}

-- the numbers of a cell's values: 0 for the start's, and one for each writer
abbrev pub choices : Trace → Cell → List ℕ
choices t cell = range_with_len 0 (length (writers t.events cell) + 1)

abbrev pub choice_value : Trace → Cell → ℕ → Value
choice_value t cell j = value_by t cell (named_writer (writers t.events cell) j)

-- a variable, true
abbrev pub yes_lit : ℕ → Lit
yes_lit var = record { var = var; positive = true }

-- the candidates of a slot below a file, and all of them
abbrev pub candidates_below : Trace → ℕ → ℕ → List ℕ
candidates_below t slot file = filter (may_hold t slot) (range_with_len 0 file)

abbrev pub candidates : Trace → ℕ → List ℕ
candidates t slot = candidates_below t slot (file_count t)

abbrev pub is_slot : ℕ → Cell → Bool
is_slot slot (SlotOf own) = own == slot
is_slot slot cell = false

abbrev pub slot_cells : List CodedCell → ℕ → List CodedCell
slot_cells cells slot = filter (λ c. is_slot slot c.cell) cells

abbrev pub file_in : Value → Option ℕ
file_in (Held file) = file
file_in value = None
