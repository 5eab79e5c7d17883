use Rattle.event_relations.proofs.Forwarding.{HasRowsTo}
use Rattle.event_relations.proofs.forward.put_forward.Given as goal

abbrev pub invariant-loop-a : goal.invariant-loop-a
invariant-loop-a l = HasRowsTo l.fn.pairs l.pairs l.rows l.a
