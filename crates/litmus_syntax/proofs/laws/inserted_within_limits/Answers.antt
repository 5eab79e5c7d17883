use Rattle.litmus_syntax.proofs.Inserting.{still_within}
use Rattle.litmus_syntax.proofs.laws.inserted_within_limits.Goals as goal

pub returns : goal.returns
returns c = still_within
