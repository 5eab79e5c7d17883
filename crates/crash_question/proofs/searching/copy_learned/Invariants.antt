use Rattle.std.proofs.Common.{◌≡◌, take}
use Rattle.crash_question.proofs.searching.copy_learned.Given as goal

abbrev pub invariant-loop-number : goal.invariant-loop-number
invariant-loop-number l = l.store ≡ record { vars = l.vars; clauses = take l.number l.learned.clauses }
