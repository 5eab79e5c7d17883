use Rattle.std.proofs.Common.{◌≡◌, ◌++◌, take}
use Rattle.proof_log.specs.LogText.{literals_text}
use Rattle.proof_log.proofs.printing.push_clause.Given as goal

abbrev pub invariant-loop-lit : goal.invariant-loop-lit
invariant-loop-lit l = l.out.items ≡ l.initial.out.items ++ literals_text (take l.lit-index l.lits)
