-- The numbers under which the faults that a checker finds in a log are printed, behind those of its reader.
use Rattle.std.specs.Prelude.{ℕ}
use Rattle.rup_checker.specs.declared.judgement.JudgeKind.{JudgeKind}
use Rattle.rup_checker.specs.declared.judgement.JudgeKind.TheVariants as kind

abbrev pub kind_number : JudgeKind → ℕ
kind_number kind.OtherFormula = 5
kind_number kind.NotRup = 6
kind_number kind.NoEmptyClause = 7
