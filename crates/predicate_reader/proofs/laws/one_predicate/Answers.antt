use Rattle.predicate_reader.proofs.FrontLaws.{one_reading}
use Rattle.predicate_reader.proofs.laws.one_predicate.Goals as goal

pub returns : goal.returns
returns c = one_reading
