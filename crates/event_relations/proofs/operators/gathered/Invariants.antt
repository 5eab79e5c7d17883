use Rattle.event_relations.proofs.Gathering.{IsGathered}
use Rattle.event_relations.proofs.operators.gathered.Given as goal

abbrev pub invariant-loop-rest : goal.invariant-loop-rest
invariant-loop-rest l = IsGathered l.rows l.fn.first l.fn.word l.fn.all l.rest l.all

abbrev pub decreases-loop-rest : goal.decreases-loop-rest
decreases-loop-rest l = l.rest
