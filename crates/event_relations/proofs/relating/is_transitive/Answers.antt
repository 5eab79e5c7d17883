use Rattle.event_relations.specs.Showing.{names_shown}
use Rattle.event_relations.proofs.Transitive.{means_joined}
use Rattle.event_relations.proofs.relating.is_transitive.Goals as goal

pub returns-in_default : goal.returns-in_default
returns-in_default c is events names a b d first rest =
    means_joined events (names_shown names) c.args.x.now c.in_default.not-Named c.in_default.not-Or c.in_default.not-And c.in_default.not-Seq a b d first rest
