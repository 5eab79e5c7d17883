use Rattle.predicate_reader.proofs.Deciding.{predicate_decided}
use Rattle.predicate_reader.proofs.laws.predicate_or_none.Goals as goal

pub returns : goal.returns
returns c = predicate_decided
