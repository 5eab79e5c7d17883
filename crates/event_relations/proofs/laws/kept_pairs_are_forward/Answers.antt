use Rattle.event_relations.proofs.Within.{kept_within}
use Rattle.event_relations.proofs.laws.kept_pairs_are_forward.Goals as goal

pub returns : goal.returns
returns c = kept_within
