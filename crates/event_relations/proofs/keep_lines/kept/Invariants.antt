use Rattle.event_relations.proofs.Keeping.{HasLinesTo}
use Rattle.event_relations.proofs.keep_lines.kept.Given as goal

abbrev pub invariant-loop-line : goal.invariant-loop-line
invariant-loop-line l = HasLinesTo l.model l.events.events l.line-index l.pairs
