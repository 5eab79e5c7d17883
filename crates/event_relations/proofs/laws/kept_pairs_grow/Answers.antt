use Rattle.event_relations.proofs.Growing.{kept_by_grows, kept_grows}
use Rattle.event_relations.proofs.laws.kept_pairs_grow.Goals as goal

pub returns-clause-of_lines : goal.returns-clause-of_lines
returns-clause-of_lines c = kept_by_grows

pub returns-clause-of_models : goal.returns-clause-of_models
returns-clause-of_models c = kept_grows
