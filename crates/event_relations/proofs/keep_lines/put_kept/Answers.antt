use Rattle.event_relations.proofs.Keeping.{forward_kept}
use Rattle.event_relations.specs.Showing.{names_shown}
use Rattle.event_relations.proofs.keep_lines.put_kept.Goals as goal

pub returns-clause-pairs : goal.returns-clause-pairs
returns-clause-pairs c =
    forward_kept c.args.events.now (names_shown c.args.names.now) c.args.kept.now c.in_ok-rows.rows c.args.pairs.now c.put_forward.new.pairs
    c.requires.within c.requires.n c.in_ok-rows.ensures.shows (rw c.as_slice.ensures at c.put_forward.ensures.pairs)
