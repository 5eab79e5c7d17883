-- The numbers under which the kinds of faults are printed.
use Rattle.std.specs.Prelude.{ℕ}
use Rattle.litmus_reader.specs.declared.fault.LitmusKind.{LitmusKind}
use Rattle.litmus_reader.specs.declared.fault.LitmusKind.TheVariants.{BadByte, BadToken, BadLine, OutOfOrder, NumberRange, NotHere, BadPredicate, EndsEarly, TooLong}

abbrev pub kind_number : LitmusKind → ℕ
kind_number BadByte = 1
kind_number BadToken = 2
kind_number BadLine = 3
kind_number OutOfOrder = 4
kind_number NumberRange = 5
kind_number NotHere = 6
kind_number BadPredicate = 7
kind_number EndsEarly = 8
kind_number TooLong = 9
