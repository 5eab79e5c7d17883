-- The numbers under which the kinds of faults of a model file are printed.
use Rattle.std.specs.Prelude.{ℕ}
use Rattle.model_reader.specs.declared.fault.ModelKind.{ModelKind}
use Rattle.model_reader.specs.declared.fault.ModelKind.TheVariants.{BadByte, BadToken, BadLine, UnknownName, NameTaken, UnknownKind, TooDeep, EndsEarly, TooMany, TooLong}

abbrev pub kind_number : ModelKind → ℕ
kind_number BadByte = 1
kind_number BadToken = 2
kind_number BadLine = 3
kind_number UnknownName = 4
kind_number NameTaken = 5
kind_number UnknownKind = 6
kind_number TooDeep = 7
kind_number EndsEarly = 8
kind_number TooMany = 9
kind_number TooLong = 10
