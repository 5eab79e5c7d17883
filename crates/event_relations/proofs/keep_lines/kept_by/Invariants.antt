use Rattle.event_relations.proofs.Keeping.{HasEachTo}
use Rattle.event_relations.proofs.keep_lines.kept_by.Given as goal

abbrev pub invariant-loop-line : goal.invariant-loop-line
invariant-loop-line l = HasEachTo l.model l.events.events l.line-index l.lines
