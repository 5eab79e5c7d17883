use Rattle.event_relations.proofs.Forwarding.{HasRowTo}
use Rattle.event_relations.proofs.forward.put_row.Given as goal

abbrev pub invariant-loop-b : goal.invariant-loop-b
invariant-loop-b l = HasRowTo l.fn.pairs l.pairs l.fn.a l.row l.b
