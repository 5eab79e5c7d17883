use Rattle.std.proofs.Common.{◌≡◌, ◌++◌, take}
use Rattle.std.specs.List.{flat_map}
use Rattle.report.specs.Answers.{need_line}
use Rattle.report.proofs.repairs.push_needs.Given as goal

abbrev pub invariant-loop-need : goal.invariant-loop-need
invariant-loop-need l = l.out.items ≡ l.initial.out.items ++ flat_map need_line (take l.need-index l.needs)
