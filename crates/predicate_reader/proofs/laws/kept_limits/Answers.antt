use Rattle.predicate_reader.proofs.Kept.{formed_predicate}
use Rattle.predicate_reader.proofs.Shortness.{short_predicate}
use Rattle.predicate_reader.proofs.laws.kept_limits.Goals as goal

pub returns : goal.returns
returns c = record { formed = formed_predicate; short = short_predicate }
