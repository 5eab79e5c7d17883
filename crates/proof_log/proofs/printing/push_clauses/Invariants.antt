use Rattle.std.proofs.Common.{◌≡◌, ◌≤◌, ◌++◌}
use Rattle.std.specs.Prelude.{map, slice_range}
use Rattle.proof_log.specs.LogText.{clause_line, text_of}
use Rattle.proof_log.proofs.printing.push_clauses.Given as goal

abbrev pub invariant-loop-id : goal.invariant-loop-id
invariant-loop-id l = (l.start ≤ l.id) × (l.out.items ≡ l.initial.out.items ++ text_of (map clause_line (slice_range l.store.clauses l.start l.id)))
