-- The numbers under which the kinds of faults of a log are printed.
use Rattle.std.specs.Prelude.{ℕ}
use Rattle.proof_log.specs.declared.fault.LogKind.{LogKind}
use Rattle.proof_log.specs.declared.fault.LogKind.TheVariants as kind

abbrev pub kind_number : LogKind → ℕ
kind_number kind.BadLine = 1
kind_number kind.BadLiteral = 2
kind_number kind.EndsEarly = 3
kind_number kind.TooLong = 4
