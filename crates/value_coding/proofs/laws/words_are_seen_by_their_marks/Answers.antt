use Rattle.value_coding.proofs.GeneralSeen.{seen-by_marks}
use Rattle.value_coding.proofs.laws.words_are_seen_by_their_marks.Goals as goal

pub returns : goal.returns
returns c = λ t word order h. seen-by_marks t word order h
