use Rattle.value_coding.proofs.GeneralCandidates.{candidate}
use Rattle.value_coding.proofs.laws.slots_hold_candidates.Goals as goal

pub returns : goal.returns
returns c = λ t slot file writer h. candidate t slot file writer h
