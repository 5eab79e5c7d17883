use Rattle.event_relations.specs.Rows.Joins.{one}
use Rattle.event_relations.proofs.relating.closed.Goals as goal

pub returns-then-is_transitive-clause-joined : goal.returns-then-is_transitive-clause-joined
returns-then-is_transitive-clause-joined c a b = (λ h. one a b h, λ h. c.requires.paths (c.is_transitive.ensures c.if-is_transitive.true) a b h)
