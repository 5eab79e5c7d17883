use Rattle.event_relations.proofs.Naming.{AreNamesTo}
use Rattle.event_relations.proofs.rounds.name_rows.Given as goal

abbrev pub invariant-loop-definition : goal.invariant-loop-definition
invariant-loop-definition l = AreNamesTo l.events l.lets l.definition-index l.names
