use Rattle.shipped_meaning.proofs.Syncs.{kept_before, kept_behind}
use Rattle.shipped_meaning.proofs.laws.shipped_models_keep_syncs.Goals as goal

pub returns-clause-before : goal.returns-clause-before
returns-clause-before c = kept_before

pub returns-clause-behind : goal.returns-clause-behind
returns-clause-behind c = kept_behind
