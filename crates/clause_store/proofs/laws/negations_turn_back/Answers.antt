use Rattle.clause_store.proofs.GeneralLiterals.{negated-negated, negations-negations, is_true-negated}
use Rattle.clause_store.proofs.laws.negations_turn_back.Goals as goal

pub returns : goal.returns
returns c = record { literal = negated-negated; list = negations-negations; truth = is_true-negated }
